use Rattle.std.proofs.Common.{◌≡◌, ◌+◌, ◌∙◌, ℕ, Bool, false, List, None, Option, Some, ap, arith, subst}
use Rattle.std.proofs.lemmas.Grind.{common_steps}
use Rattle.std.proofs.lemmas.Option.{none-some, same_Some}
use Rattle.std.specs.Borrow.{Bor}
use Rattle.std.specs.Option.{option_map, unwrap_or}
use Rattle.rkyv_base.specs.{bytes_of, pos_of, value_offset}
use Rattle.rkyv_base.specs.declared.view.View.{View}
use Rattle.rkyv_keys.specs.{Comparison, hash_at}
use Rattle.rkyv_collections.specs.{FindsKey, IsValueAt, map_bytes}
use Rattle.rkyv_collections.proofs.map.ArchivedHashMap.matches.Goals as goal

-- the value behind the found key is compared
some_compared : (same : ℕ → Bool) (offset at : ℕ) (o : Option ℕ) → Some at ≡ option_map (λ q. q + offset) o → same at ≡ unwrap_or (option_map (λ q. same (q + offset)) o) false
some_compared same offset at o e = grind (arith, common_steps, none-some, same_Some)

none_compared : (same : ℕ → Bool) (offset : ℕ) (o : Option ℕ) → None ≡ option_map (λ q. q + offset) o → false ≡ unwrap_or (option_map (λ q. same (q + offset)) o) false
none_compared same offset o e = grind (arith, common_steps, none-some)

pub returns-in-Some : goal.returns-in-Some
returns-in-Some g c =
    let key = c.args.key in
    let found = c.in-Some.found in
    let same : Comparison = g.V.ElementEq.same in
    let offset : ℕ = value_offset g.K.HasSpec.spec g.V.HasSpec.spec in
    let finds : View g.row.K.Denot → Type 0 = λ k. FindsKey c.args.self (hash_at g.H.KeyHasher.hasher g.K.KeyElement.key_calls (bytes_of k) (pos_of k)) (g.K.ElementEq.same (bytes_of k) (pos_of k) (map_bytes c.args.self)) (IsValueAt g.K.HasSpec.spec g.V.HasSpec.spec (Some found)) in
    c.same.ensures
    ∙ ap (λ (a : Bor (List ℕ)). same a.now c.args.value.pos (bytes_of found) found.pos) c.requires.pair.0
    ∙ ap (λ p. same (bytes_of key) p (bytes_of found) found.pos) c.requires.pair.1
    ∙ ap (λ (a : Bor (List ℕ)). same (bytes_of key) (key.pos + offset) a.now found.pos) c.in-Some.ensures.walked.at.0
    ∙ some_compared (same (bytes_of key) (key.pos + offset) (map_bytes c.args.self)) offset found.pos _ (subst finds c.of.ensures c.in-Some.ensures.finds)

pub returns-in-None : goal.returns-in-None
returns-in-None g c =
    let key = c.args.key in
    let offset : ℕ = value_offset g.K.HasSpec.spec g.V.HasSpec.spec in
    let finds : View g.row.K.Denot → Type 0 = λ k. FindsKey c.args.self (hash_at g.H.KeyHasher.hasher g.K.KeyElement.key_calls (bytes_of k) (pos_of k)) (g.K.ElementEq.same (bytes_of k) (pos_of k) (map_bytes c.args.self)) (IsValueAt {V = g.row.V.Denot} g.K.HasSpec.spec g.V.HasSpec.spec None) in
    none_compared (g.V.ElementEq.same (bytes_of key) (key.pos + offset) (map_bytes c.args.self)) offset _ (subst finds c.of.ensures c.in-None.ensures.finds)
