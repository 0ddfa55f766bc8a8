-- The archive of a list, and the scalar of a value that is found in it.
use Rattle.std.proofs.Common.{◌≡◌, ◌+◌, ◌∙◌, ℕ, Bool, List, MatchResult, Option, Result, [], ◌∷◌, ap, refl, subst, sym, arith, rules}
use Rattle.std.proofs.lemmas.Grind.{common_steps}
use Rattle.std.specs.Borrow.{Bor}
use Rattle.std.specs.Int.{Width}
use Rattle.std.specs.List.{find, list_any}
use Rattle.std.specs.Option.{is_some, option_map}
use Rattle.std.specs.Prelude.{IfSome}
use Rattle.std.specs.declared.vec.Vec.{Vec}
use Rattle.std.proofs.lemmas.Bool.{cases_Bool}
use Rattle.std.proofs.lemmas.Option.{IfSome_then, none-some, same_Some}
use Rattle.rkyv_scan.specs.{generic_kind}
use Rattle.rkyv_base.specs.{ArchiveOf, ElementSpec, Encoding, IsAt, ToBytesFails, bytes_of, entry_spec, narrow_limit, pos_of_found, value_at, value_offset}
use Rattle.rkyv_base.specs.declared.element.HasSpec.{Ghosts as Specs}
use Rattle.rkyv_base.specs.declared.errors.WriteError.{WriteError}
use Rattle.rkyv_base.specs.declared.view.View.{View}
use Rattle.rkyv_base.specs.declared.width.Word.{Ghosts as Words}
use Rattle.rkyv_table.specs.{home_positions, pos_found, with_units}
use Rattle.rkyv_table.proofs.Moved.{moved}
use Rattle.rkyv_collections.proofs.FoundPairs.{first_listed, value_listed}
use Rattle.rkyv_collections.specs.{FindsKey, FoundAreListed, IsPosOfPair, IsValueAt, IsValueIn, MapRepresents, MapWrittenAt, TextMapRepresents, TextMapResult, TextPairs, map_bytes, map_pos, map_root, text_map_format, text_map_spec}
use Rattle.rkyv_keys.specs.{FindsByView, FitsItsEqual, FoundValues, NativeKeys, first_pair, scalar_found}
use Rattle.rkyv_collections.specs.declared.map.ArchivedHashMap.{ArchivedHashMap}
use Rattle.rkyv_collections.specs.declared.map.HashMapOf.{HashMapOf}

-- the result of `to_bytes` for a list of texts with these pairs
pub text_map_result : {F N Z : Type 0} (e : Encoding N) {factor : ℕ × ℕ} {pairs pairs' : TextPairs N} (result : Result (Vec ℕ Z) (WriteError F)) → factor ≡ (7, 8) → pairs' ≡ pairs
    → MatchResult result (λ archive. ArchiveOf narrow_limit (text_map_spec e) (TextMapRepresents e factor) (text_map_format e factor) pairs' archive.items)
    (ToBytesFails narrow_limit (text_map_spec e) (text_map_format e factor) pairs')
    → TextMapResult e pairs result
text_map_result e {pairs' = pairs'} result is_factor is_pairs made =
    subst (λ x. TextMapResult e x result) is_pairs (subst (λ x. MatchResult result (λ archive. ArchiveOf narrow_limit (text_map_spec e) (TextMapRepresents e x) (text_map_format e x) pairs' archive.items)
    (ToBytesFails narrow_limit (text_map_spec e) (text_map_format e x) pairs')) is_factor made)

-- a found value, by the position of its key
scalar_behind : {N : Type 0} (e : Encoding N) (b : List ℕ) (offset : ℕ) (found : Option (View N)) (key : Option ℕ) → IfSome found (λ view. bytes_of view ≡ b)
    → pos_of_found found ≡ option_map (λ q. q + offset) key → scalar_found e found ≡ option_map (λ q. value_at e b (q + offset)) key
scalar_behind e b offset found o bytes at = grind (arith, common_steps, same_Some, none-some)

-- the value that a lookup finds in a map at the root of an archive
pub scalar_at_root : {K N H W : Type 0} {ks : Specs K} {vs : Specs N} {wt : Words W} (e : Encoding N) (m : ArchivedHashMap K N H W ks vs wt) (root : View (HashMapOf K N H W)) (archive : Bor (List ℕ))
    (hash : ℕ) (fits : List ℕ → ℕ → Bool) (found : Option (View N)) → m.view ≡ root → IsAt root archive (map_root wt.word ks.spec vs.spec archive.now) → IfSome found (IsValueIn m)
    → FindsKey m hash (fits (map_bytes m)) (IsValueAt ks.spec vs.spec found)
    → scalar_found e found ≡ option_map (λ q. value_at e archive.now (q + value_offset ks.spec vs.spec))
    (pos_found generic_kind wt.word (entry_spec ks.spec vs.spec).size archive.now (map_root wt.word ks.spec vs.spec archive.now) hash (fits archive.now))
scalar_at_root {ks = ks} {vs = vs} {wt = wt} e m root archive hash fits found view at walked finds = grind (arith, scalar_behind, moved)

-- In the map at the root of an archive that represents a list of pairs, the first key that fits is in the first pair with an equal key
pub record FirstInRoot {A B : Type 0} (w : Width) (k v : ElementSpec) (key : List ℕ → ℕ → A → Type 0) (value : List ℕ → ℕ → B → Type 0) (hash : List ℕ → ℕ → ℕ) (b : List ℕ) (p : ℕ)
    (accept : ℕ → Bool) (first : Option (A × B)) : Type 0 where
  pub homes : List ℕ
  pub written : MapWrittenAt w (entry_spec k v) hash b p homes
  pub pair : IsPosOfPair k v key value b (find accept (home_positions w (entry_spec k v).size b p homes)) first

pub first_in_root : {A Q B K V H W : Type 0} {ks : Specs K} {vs : Specs V} {wt : Words W} (m : ArchivedHashMap K V H W ks vs wt) (keys : NativeKeys A Q) (value : List ℕ → ℕ → B → Type 0)
    → FitsItsEqual ks.spec keys.represents keys.equal keys.fits → (archive : Bor (List ℕ)) (factor : ℕ × ℕ) (pairs : List (A × B)) (query : Q)
    → IsAt m.view archive (map_root wt.word ks.spec vs.spec archive.now)
    → MapRepresents wt.word ks.spec vs.spec keys.represents value keys.key_hash factor archive.now (map_root wt.word ks.spec vs.spec archive.now) pairs
    → FirstInRoot wt.word ks.spec vs.spec keys.represents value keys.key_hash (map_bytes m) (map_pos m) (keys.fits query (map_bytes m)) (first_pair (keys.equal query) pairs)
first_in_root {ks = ks} {vs = vs} {wt = wt} m keys value native archive factor pairs query at is =
    let w = wt.word in
    let k = ks.spec in
    let v = vs.spec in
    let represents = moved (λ x p. MapRepresents w k v keys.represents value keys.key_hash factor x p pairs) _ _ _ _ (sym (ap (λ a. a.now) at.0)) (sym at.1) is in
    search (rules, first_listed)

-- the map at a view that is at a position is there
at_view : {K V H W : Type 0} {ks : Specs K} {vs : Specs V} {wt : Words W} (m : ArchivedHashMap K V H W ks vs wt) (root : View (HashMapOf K V H W)) (archive : Bor (List ℕ)) (p : ℕ)
    → m.view ≡ root → IsAt root archive p → IsAt m.view archive p
at_view m root archive p view at = (ap (λ x. x.archive) view ∙ at.0, ap (λ x. x.pos) view ∙ at.1)

-- the value that a lookup finds in it is the first pair's value
pub found_listed : {A Q B K V W : Type 0} (H : Type 0) (wt : Words W) (ks : Specs K) (vs : Specs V) (keys : NativeKeys A Q) → FitsItsEqual ks.spec keys.represents keys.equal keys.fits
    → (values : FoundValues V B) → FindsByView values → FoundAreListed H wt ks vs keys values
found_listed H wt ks vs keys native values by = λ m root archive factor pairs query found view at is walked finds_first.
    let first = first_in_root m keys values.represents native archive factor pairs query (at_view m root archive _ view at) is in
    by found _ (value_listed ks.spec vs.spec keys.represents values.represents (map_bytes m) _ _ found (IfSome_then found walked (λ x i. ap (λ a. a.now) i.at.0)) first.pair (finds_first first.homes first.written))

-- some key with the unit value is accepted if and only if some key is
pub member_listed : {A : Type 0} (accept_value : A → Bool) (items : List A) → is_some (first_pair accept_value (with_units items)) ≡ list_any accept_value items
member_listed accept_value [] = refl
member_listed accept_value (x ∷ xs) = grind (arith, common_steps, cases_Bool, member_listed accept_value xs)
