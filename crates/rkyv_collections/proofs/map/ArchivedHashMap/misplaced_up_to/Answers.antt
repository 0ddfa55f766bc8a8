use Rattle.std.proofs.Common.{ap, subst, ◌∙◌, ◌≡◌, ◌<◌, ◌≤◌, Bool, ℕ, List, MatchOption}
use Rattle.std.specs.Borrow.{Bor}
use Rattle.rkyv_scan.specs.{generic_kind}
use Rattle.rkyv_base.specs.{bytes_of, entry_spec}
use Rattle.rkyv_base.specs.declared.entry.Entry.{Entry}
use Rattle.rkyv_base.specs.declared.view.View.{View}
use Rattle.rkyv_keys.specs.{hash_at}
use Rattle.rkyv_table.specs.{IsItem, all_strides, cap_at, item_at, len_at, misplaced, table_bytes, table_controls, table_pos}
use Rattle.rkyv_collections.specs.{map_bytes, map_pos}
use Rattle.rkyv_collections.proofs.map.ArchivedHashMap.misplaced_up_to.Goals as goal

pub returns : goal.returns
returns g c =
    let w = g.W.Word.word in
    let s = entry_spec g.K.HasSpec.spec g.V.HasSpec.spec in
    let t = c.table.result in
    let b : List ℕ = map_bytes c.args.self in
    let key_hash = hash_at g.H.KeyHasher.hasher g.K.KeyElement.key_calls in
    let same_key = g.K.ElementEq.same in
    let hash_of : ℕ → ℕ = key_hash b in
    let same : ℕ → ℕ → Bool = λ p q. same_key b p b q in
    let count_in : (List ℕ → ℕ → ℕ → (ℕ → ℕ) → (ℕ → ℕ → Bool) → ℕ) → List ℕ → ℕ → ℕ =
    λ f a p. f (table_controls w a p) (cap_at w a p) (len_at w a p) (λ i. hash_of (item_at w s.size a p i)) (λ i j. same (item_at w s.size a p i) (item_at w s.size a p j)) in
    let here : (x : View (Entry g.row.K.Denot g.row.V.Denot)) → IsItem t x → bytes_of x ≡ b =
    λ x item. ap (λ (a : Bor (List ℕ)). a.now) (item.1.archive ∙ c.table.ensures.at.0) in
    let moved : (f : List ℕ → ℕ → ℕ → (ℕ → ℕ) → (ℕ → ℕ → Bool) → ℕ) → count_in f (table_bytes t) (table_pos t) ≡ count_in f b (map_pos c.args.self) =
    λ f. ap (λ (a : Bor (List ℕ)). count_in f a.now (table_pos t)) c.table.ensures.at.0 ∙ ap (count_in f b) c.table.ensures.at.1 in
    let read : ℕ = count_in (all_strides generic_kind) (table_bytes t) (table_pos t) in
    let counted : ℕ = count_in (misplaced generic_kind) (table_bytes t) (table_pos t) in
    let keys : ℕ = count_in (misplaced generic_kind) b (map_pos c.args.self) in
    let Counts : ℕ → ℕ → Type 0 = λ some many.
    MatchOption c.misplaced_up_to_by.result (c.args.limit < some) (λ n. (some ≤ c.args.limit) × (n ≡ many)) in
    let first : Counts read counted = c.misplaced_up_to_by.ensures.counts hash_of same
    (λ x h item e. e.1 ∙ ap (λ a. key_hash a x.pos) (here x item))
    (λ x y r own other e. e.2 ∙ ap (λ a. same_key a x.pos (bytes_of y) y.pos) (here x own) ∙ ap (λ a. same_key b x.pos a y.pos) (here y other)) in
    subst (λ n. Counts n keys) (moved (all_strides generic_kind)) (subst (Counts read) (moved (misplaced generic_kind)) first)
