use Rattle.std.proofs.Common.{arith, ◌≡◌, ◌+◌, ◌*◌, ℕ, List, subst, ap, ◌∙◌, pos, ◌-ℤ◌, ◌++◌, rules}
use Rattle.std.specs.Prelude.{FitsSigned}
use Rattle.std.specs.Int.{byte_len, cast_unsigned, to_le_bytes, w64}
use Rattle.std.proofs.lemmas.Int.{to_z-of_z}
use Rattle.rkyv_table.specs.{IsHeader, capacity}
use Rattle.rkyv_index.specs.{IndexResolver}
use Rattle.rkyv_index.proofs.Headers.{header_of}
use Rattle.rkyv_index.proofs.map.ArchivedIndexMap.resolve_from_len.Goals as goal

pub returns : goal.returns
returns g c =
    let l = g.met.W.Width.layout in
    let at : c.args.pos + c.TABLE_SIZE.result ≡ c.args.pos + 3 * byte_len g.W.Word.word = omega (arith, c.TABLE_SIZE.ensures, l.table_is, l.align_is) in
    let fits : FitsSigned w64 c.in-Some.distance = search rules in
    header_of g.W.Word.word _ c.args.len c.args.load_factor c.args.pos c.requires.same _ (record {
      table = c.resolve_from_len.new.out;
      header = subst (λ (r : IndexResolver). IsHeader g.W.Word.word c.args.len (capacity c.args.len c.args.load_factor) r.table.pos c.args.pos c.resolve_from_len.new.out) c.resolver.view_is c.in_ok-resolve_from_len.ensures;
      distance = c.in-Some.distance;
      fits = c.in-Some.ensures.1;
      distance_value = c.in-Some.ensures.0 ∙ ap (λ n. pos c.resolver.inside.entries -ℤ pos n) at ∙ ap (λ (r : IndexResolver). pos r.entries -ℤ pos (c.args.pos + 3 * byte_len g.W.Word.word)) c.resolver.view_is;
      is = ap (λ (y : List ℕ). c.resolve_from_len.new.out ++ y) (c.write_distance.ensures ∙ ap (λ d. to_le_bytes g.W.Word.word (cast_unsigned g.W.Word.word d)) (to_z-of_z w64 c.in-Some.distance fits));
    })
