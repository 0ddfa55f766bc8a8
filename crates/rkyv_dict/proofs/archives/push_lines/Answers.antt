use Rattle.std.proofs.Common.{◌∙◌, ◌++◌, ℕ, List, string_bytes}
use Rattle.std.specs.List.{flat_map}
use Rattle.rkyv_table.specs.{ItemsLeft}
use Rattle.rkyv_collections.specs.{key_positions, map_archive}
use Rattle.rkyv_dict.specs.{line_at}
use Rattle.rkyv_dict.proofs.Lines.{lines_after}
use Rattle.rkyv_dict.proofs.archives.push_lines.Goals as goal

pub loop-key-preserved : goal.loop-key-preserved
loop-key-preserved g c =
    let s = g.P.HasSpec.spec in
    let text = g.P.Printable.text in
    let archive = map_archive c.args.map in
    let before : ItemsLeft = c.loop-key.key-iterator in
    let after : ItemsLeft = c.next.new.self in
    let key = c.in-Some.key in
    let value = c.in-Some.value in
    let steps = c.in-Some.ensures.steps in
    let left = c.loop-key.invariant in
    let all : List ℕ = string_bytes c.args.out.now ++ flat_map (line_at s text archive.now) (key_positions c.args.map) in (
      steps.0.archive ∙ left.0,
      lines_after s text archive before after key value left.0 steps.0 steps.1 steps.2 all (string_bytes c.loop-key.out) (string_bytes c.push_pair.new.out) left.1 c.in_ok-push_pair.ensures,
    )
