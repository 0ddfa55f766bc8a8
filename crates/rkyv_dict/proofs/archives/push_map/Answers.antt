use Rattle.std.proofs.Common.{ap, ◌∙◌, ◌≡◌, ◌++◌, ℕ, List, append_assoc, codes, decimal, string_bytes}
use Rattle.std.specs.List.{flat_map}
use Rattle.std.proofs.lemmas.Result.{on_ok_weaker}
use Rattle.rkyv_base.specs.{entry_spec}
use Rattle.rkyv_base.proofs.AtViews.{read_at}
use Rattle.rkyv_table.specs.{item_positions, len_at}
use Rattle.rkyv_collections.specs.{map_bytes, map_len, map_pos}
use Rattle.rkyv_dict.specs.{line, line_at, pair_count, pair_lines, pair_positions}
use Rattle.rkyv_dict.proofs.archives.push_map.Goals as goal

pub returns : goal.returns
unfolding pair_count pair_lines pair_positions
returns g c =
    let s = g.P.HasSpec.spec in
    let w = g.W.Word.word in
    let m = c.map_of-map.result in
    let old = string_bytes c.args.out.now in
    let head : ℕ → List ℕ = λ n. line (codes "entries " ++ decimal n) in
    let rest : List ℕ → ℕ → List ℕ = λ b p. flat_map (line_at s g.P.Printable.text b) (item_positions w (entry_spec s s).size b p) in
    let here : List ℕ = rest (map_bytes m) (map_pos m) in
    let counted : string_bytes c.push_count.new.out ≡ old ++ head (map_len m) = c.in_ok-push_count.ensures ∙ ap (λ n. old ++ head n) c.len.ensures in
    let placed = read_at m.view _ _ c.map_of-map.ensures.at (λ b p. head (len_at w b p) ++ rest b p) in
    on_ok_weaker c.push_lines.result (λ e. e ∙ ap (λ t. t ++ here) counted ∙ append_assoc old (head (map_len m)) here ∙ ap (λ t. old ++ t) placed) c.push_lines.ensures
