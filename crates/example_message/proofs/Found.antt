-- The number that lookups find in a message is the number in its list.
use Rattle.std.proofs.Common.{◌≡◌, ℕ, Bool, List, Option, None, Some, false, refl, ◌∙◌}
use Rattle.std.specs.Borrow.{Bor}
use Rattle.std.specs.Int.{w32}
use Rattle.std.specs.Option.{is_some, option_map}
use Rattle.rkyv_base.specs.{unsigned}
use Rattle.rkyv_base.specs.declared.view.View.{View}
use Rattle.rkyv_table.proofs.Moved.{moved}
use Rattle.rkyv_collections.specs.{SetsFound}
use Rattle.rkyv_keys.specs.{IsFoundValue, first_pair, with_first}
use Rattle.rkyv_collections.specs.declared.lists.pairs.MapPairs.{MapPairs}
use Rattle.example_message.specs.{FieldList, FieldsRepresent, PartRepresents, Parts, PartsRepresent, RepresentsIfFound, WritesIfFound, is_named, name_hash, name_spec, number_in, number_of_part, number_spec, with_field, with_part}

pub part_found : {V : Type 0} (b : List ℕ) (p : ℕ) (view : View V) (o : Option (MapPairs (Bor (List ℕ)) ℕ ℕ)) → view.archive.now ≡ b → view.pos ≡ p → IsFoundValue PartRepresents (Some view) o → RepresentsIfFound b o (Some p)
part_found b p view None e f h = absurd h
part_found b p view (Some part) e f h = moved (λ x q. PartRepresents x q part) _ _ _ _ e f h

pub no_part_found : (b : List ℕ) (o : Option (MapPairs (Bor (List ℕ)) ℕ ℕ)) → IsFoundValue {V = ℕ} PartRepresents None o → RepresentsIfFound b o None
no_part_found b None h = tt
no_part_found b (Some part) h = absurd h

module _ (b : List ℕ) (field : List ℕ) where
  pub number_in_part : (p : ℕ) (o : Option (MapPairs (Bor (List ℕ)) ℕ ℕ)) (r : Option ℕ) → RepresentsIfFound b o (Some p)
      → ((factor : ℕ × ℕ) (list : FieldList) → FieldsRepresent factor b p list → r ≡ number_in field list) → r ≡ number_of_part field o
  number_in_part p None r s of_list = absurd s
  number_in_part p (Some part) r s of_list = of_list part.load_factor part.pairs.now s

  pub no_number_in_part : (o : Option (MapPairs (Bor (List ℕ)) ℕ ℕ)) → RepresentsIfFound b o None → None ≡ number_of_part field o
  no_number_in_part None s = refl
  no_number_in_part (Some part) s = absurd s

some_either : {A B : Type 0} (f : A → B) (o : Option A) → is_some o ≡ is_some (option_map f o)
some_either f None = refl
some_either f (Some x) = refl

module _ (b c : List ℕ) (part field : List ℕ) (number : ℕ) (parts : Parts) (p : ℕ) where
  -- the number is overwritten in the first part with the name, if there is one
  pub number_set : (found : Bool) (pos : ℕ) (o : Option (MapPairs (Bor (List ℕ)) ℕ ℕ)) → RepresentsIfFound b o (Some pos)
      → ((factor : ℕ × ℕ) (list : FieldList) → FieldsRepresent factor b pos list → (found ≡ is_some (first_pair (is_named field) list)) × FieldsRepresent factor c pos (with_first (is_named field) number list))
      → ((new : MapPairs (Bor (List ℕ)) ℕ ℕ) → PartRepresents c pos new → PartsRepresent (7, 8) c p (with_first (is_named part) new parts))
      → (found ≡ is_some (number_of_part field o)) × PartsRepresent (7, 8) c p (with_part part field number parts o)
  number_set found pos None s set outer = absurd s
  number_set found pos (Some fields) s set outer =
      let of_list = set fields.load_factor fields.pairs.now s in
      (of_list.0 ∙ some_either (λ pair. pair.1) (first_pair (is_named field) fields.pairs.now), outer (with_field field number fields) of_list.1)

pub none_set : (b part field : List ℕ) (number : ℕ) (parts : Parts) (p : ℕ) (o : Option (MapPairs (Bor (List ℕ)) ℕ ℕ)) → RepresentsIfFound b o None → PartsRepresent (7, 8) b p parts
    → (false ≡ is_some (number_of_part field o)) × PartsRepresent (7, 8) b p (with_part part field number parts o)
none_set b part field number parts p None s represents = (refl, represents)
none_set b part field number parts p (Some fields) s represents = absurd s

-- a write at the position that a lookup finds
pub only_written : (b c : List ℕ) (p n : ℕ) (found : Bool) (key_pos : Option ℕ) → SetsFound w32 name_spec number_spec (unsigned w32) name_hash b p n found c key_pos
    → WritesIfFound key_pos n b c found
only_written b c p n found None h = h
only_written b c p n found (Some q) h = (h.0, h.1)
