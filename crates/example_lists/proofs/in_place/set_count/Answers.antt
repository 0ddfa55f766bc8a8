use Rattle.std.proofs.Common.{◌≡◌, ◌-◌, ℕ, Bool, List, None, Ok, Option, Some, ap, length, subst, sym, ◌∙◌}
use Rattle.std.specs.Int.{w32, w64}
use Rattle.std.specs.Option.{is_some, option_map}
use Rattle.std.specs.Prelude.{MatchOption, false, true}
use Rattle.rkyv_scan.specs.{fx_hasher, generic_kind, low_halves}
use Rattle.rkyv_base.specs.{Viewable, entry_spec, narrow_limit, scalar_spec, text_at, text_spec, unsigned, value_pos, with_value}
use Rattle.rkyv_keys.specs.{first_pair, hash_of, same_bytes, text_calls, with_first}
use Rattle.rkyv_table.specs.{KeepsArchive, WritesAmongParts, pos_found}
use Rattle.rkyv_collections.specs.{IsTextMap, SetsFound, SetsValueOfText, TextMapRepresents, TextPairs, first_of_text, map_spec, text_map_spec}
use Rattle.example_lists.proofs.Options.{some_either}
use Rattle.example_lists.proofs.in_place.set_count.Goals as goal
use Rattle.example_lists.proofs.in_place.set_count.Goals.{After-set_value_of}

pub set_value_of-requires : goal.set_value_of-requires
set_value_of-requires c =
    let s = map_spec w32 (text_spec w32) (scalar_spec (unsigned w64)) in
    let at = c.in_ok-access.ensures.root.1 in
    record { map = subst (Viewable s c.args.table.now) (sym c.pos-root.ensures) (subst (λ b. Viewable s b c.in_ok-access.field-0.pos) (ap (λ a. a.now) at.0) c.in_ok-access.ensures.viewable) }

pub returns-in_err-access-clause-found : goal.returns-in_err-access-clause-found
returns-in_err-access-clause-found c = λ pairs is.
    let accepted = c.in_err-access.ensures.accepts is.accepted in absurd cc

pub returns-in_err-access-clause-listed : goal.returns-in_err-access-clause-listed
returns-in_err-access-clause-listed c = λ pairs is.
    let accepted = c.in_err-access.ensures.accepts is.accepted in absurd cc

-- the value behind the key at a position is written, and `found` is `true`; at `None` nothing is
abbrev SetsAtKey : List ℕ → ℕ → List ℕ → Bool → Option ℕ → Type 0
SetsAtKey b count d found key =
    let e = unsigned w64 in
    MatchOption key ((found ≡ false) × (d ≡ b)) (λ q. (found ≡ true) × (d ≡ with_value e b (value_pos (text_spec w32) (scalar_spec e) q) count))

set_at_key : (b d : List ℕ) (p count : ℕ) (found : Bool) (key_hash : List ℕ → ℕ → ℕ) (key : Option ℕ)
    → SetsFound w32 (text_spec w32) (scalar_spec (unsigned w64)) (unsigned w64) key_hash b p count found d (option_map (value_pos (text_spec w32) (scalar_spec (unsigned w64))) key)
    → SetsAtKey b count d found key
set_at_key b d p count found key_hash None set = set
set_at_key b d p count found key_hash (Some q) set = (set.0, set.1)

-- the archive afterwards
module _ (c : After-set_value_of) where
  root_at : c.pos-root.result ≡ length c.args.table.now - (text_map_spec (unsigned w64)).size
  root_at = c.pos-root.ensures ∙ c.in_ok-access.ensures.root.1.1

  kept : KeepsArchive narrow_limit (text_map_spec (unsigned w64)) c.args.table.now c.set_value_of.new.archive
  kept =
      let b = c.args.table.now in
      let d = c.set_value_of.new.archive in
      c.writes_keep_archives.ensures b d c.in_ok-access.ensures.root.0 (subst (WritesAmongParts (text_map_spec (unsigned w64)) b d) root_at c.set_value_of.ensures.parts)

  -- the position of the key that a lookup finds in the map at `p`
  abbrev key_found : ℕ → Option ℕ
  key_found p = pos_found generic_kind w32 (entry_spec (text_spec w32) (scalar_spec (unsigned w64))).size c.args.table.now p
      (hash_of (fx_hasher low_halves) text_calls c.args.name.now) (λ q. same_bytes c.args.name.now (text_at w32 c.args.table.now q))

  only_written : SetsValueOfText (unsigned w64) c.args.name.now c.args.count c.args.table.now c.set_value_of.new.archive c.set_value_of.result
  only_written =
      let b = c.args.table.now in
      let d = c.set_value_of.new.archive in
      let found = c.set_value_of.result in
      subst (λ p. SetsAtKey b c.args.count d found (key_found p)) root_at
      (set_at_key b d c.pos-root.result c.args.count found _ (key_found c.pos-root.result) c.set_value_of.ensures.sets.finds)

-- whether the name was found, and the list of the archive afterwards
module _ (c : After-set_value_of) (pairs : TextPairs ℕ) (is : IsTextMap (unsigned w64) c.args.table.now pairs) where
  abbrev written : TextPairs ℕ
  written = with_first (λ other. same_bytes c.args.name.now other.now) c.args.count pairs

  set : (c.set_value_of.result ≡ is_some (first_of_text c.args.name.now pairs)) × TextMapRepresents (unsigned w64) is.load_factor c.set_value_of.new.archive c.pos-root.result written
  set =
      let b = c.args.table.now in
      let at = subst (λ n. TextMapRepresents (unsigned w64) is.load_factor b n pairs) (sym (root_at c)) is.represents in
      let now = c.set_value_of.ensures.listed is.load_factor pairs at in
      (now.0 ∙ some_either (λ pair. pair.1) (first_pair (λ other. same_bytes c.args.name.now other.now) pairs), now.1)

  archived : IsTextMap (unsigned w64) c.set_value_of.new.archive written
  archived =
      let s = text_map_spec (unsigned w64) in
      let d = c.set_value_of.new.archive in
      record {
        accepted = (kept c).valid;
        load_factor = is.load_factor;
        represents = subst (λ n. TextMapRepresents (unsigned w64) is.load_factor d n written) (root_at c ∙ ap (λ n. n - s.size) (sym (kept c).same_length)) set.1;
      }

pub returns-clause-kept : goal.returns-clause-kept
returns-clause-kept c = (kept (goal.at.returns-clause-kept c).After-set_value_of).valid

pub returns-clause-written : goal.returns-clause-written
returns-clause-written c = only_written (goal.at.returns-clause-written c).After-set_value_of

pub returns-clause-found : goal.returns-clause-found
returns-clause-found c = λ pairs is. ap Ok (set (goal.at.returns-clause-found c).After-set_value_of pairs is).0

pub returns-clause-listed : goal.returns-clause-listed
returns-clause-listed c = λ pairs is. archived (goal.at.returns-clause-listed c).After-set_value_of pairs is
