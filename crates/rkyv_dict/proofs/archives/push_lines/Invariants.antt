use Rattle.std.proofs.Common.{◌≡◌, ◌++◌, string_bytes}
use Rattle.std.specs.List.{flat_map}
use Rattle.rkyv_collections.specs.{key_positions, map_archive, map_bytes}
use Rattle.rkyv_dict.specs.{line_at}
use Rattle.rkyv_dict.proofs.archives.push_lines.Given as goal

-- the lines of the remaining pairs are the remaining lines
abbrev pub invariant-loop-key : goal.invariant-loop-key
invariant-loop-key g l =
    let s = g.P.HasSpec.spec in
    let line = line_at s g.P.Printable.text (map_bytes l.map) in
    (l.key-iterator.archive ≡ map_archive l.map)
    × (string_bytes l.initial.out ++ flat_map line (key_positions l.map) ≡ string_bytes l.out ++ flat_map line l.key-iterator.positions)
