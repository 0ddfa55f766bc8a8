-- The item that a lookup finds, by its bucket.
use Rattle.rkyv_base.specs.declared.element.HasSpec.{Ghosts as Specs}
use Rattle.rkyv_base.specs.declared.width.Word.{Ghosts as Words}
use Rattle.std.proofs.Common.{◌≡◌, ℕ, ◌<◌, ◌^◌, ◌∙◌, Bool, List, None, Option, Some, ap, refl, subst, sym, true, arith}
use Rattle.std.specs.Option.{option_map}
use Rattle.rkyv_scan.specs.{IsKind, Kind, generic_kind, paired_kind}
use Rattle.rkyv_base.specs.{IsElement, pos_of_found}
use Rattle.rkyv_base.specs.declared.view.View.{View}
use Rattle.rkyv_table.specs.{ComparesBy, CountsStrides, FindsBucket, FindsFirst, FindsFound, FindsItem, FindsItemPos, IsItemIn, bucket_found, item_at, lookup, table_bytes, table_controls, table_pos}
use Rattle.rkyv_table.specs.declared.table.ArchivedHashTable.{ArchivedHashTable}
use Rattle.rkyv_table.proofs.FirstFound.{first_found}
use Rattle.rkyv_table.proofs.PairedFound.{end_paired, found_paired}
use Rattle.rkyv_table.proofs.ValidTable.{read_end, read_found, view_is}

module _ {T W : Type 0} {ts : Specs T} {wt : Words W} (post : View T → Bool → Type 0) (t : ArchivedHashTable T W ts wt) (hash : ℕ) where
  -- the control bytes lead to the first accepted item of a written table
  pub finds_first : (kind : Kind) → IsKind kind → hash < 2 ^ 64 → (found : Option ℕ) → FindsFound post kind t hash found → FindsFirst post t hash found
  finds_first kind law fits found finds = λ hashes homes accept written alone under.
      finds accept alone ∙ first_found kind law wt.word ts.spec.size (table_bytes t) (table_pos t) hash fits hashes homes accept written under

  -- a lookup by groups of sixteen as two halves is one by groups of eight
  pub found_by_paired : (result : Option (View T)) → FindsItem post paired_kind t hash result → FindsItem post generic_kind t hash result
  found_by_paired result h = grind (arith, found_paired)

  pub counted_by_paired : (before after : ℕ) → CountsStrides post paired_kind t hash before after → CountsStrides post generic_kind t hash before after
  counted_by_paired before after h = grind (arith, end_paired)

  -- the position of a found item
  pub pos_of_item : (kind : Kind) (result : Option (View T)) → FindsItem post kind t hash result → FindsItemPos post kind t hash (pos_of_found result)
  pos_of_item kind (Some v) h = record { walked = (h.walked.0, h.walked.1.walked, h.walked.1.pos); accepted = (v, h.walked, refl, h.accepted); finds = h.finds; first = h.first }
  pos_of_item kind None h = record { walked = tt; accepted = tt; finds = h.finds; first = h.first }

-- a lookup in the control bytes that were read, with the comparison called for items of buckets
module _ {T W : Type 0} {ts : Specs T} {wt : Words W} (post : View T → Bool → Type 0) (kind : Kind) (law : IsKind kind) (element : IsElement ts.spec) (t : ArchivedHashTable T W ts wt) (controls : List ℕ)
    (are : 0 < t.header.cap → controls ≡ table_controls wt.word (table_bytes t) (table_pos t))
    (hash : ℕ) (fits : hash < 2 ^ 64) (before after : ℕ)
    (bucket_post : ℕ → Bool → Type 0) (meets : (i : ℕ) (r : Bool) → bucket_post i r → (v : View T) × IsItemIn t i v × post v r) (found : Option ℕ)
    (finds : FindsBucket (lookup kind controls t.header.cap t.header.len hash) bucket_post before after found) where
  abbrev bucket_pos : ℕ → ℕ
  bucket_pos = item_at wt.word ts.spec.size (table_bytes t) (table_pos t)

  compares_bucket : (accept : ℕ → Bool) → ComparesBy post t accept → (i : ℕ) (r : Bool) → bucket_post i r → r ≡ accept (bucket_pos i)
  compares_bucket accept alone i r returned = let e = meets i r returned in alone e.0 r (i, e.1) e.2 ∙ ap accept e.1.pos

  bucket_is : (accept : ℕ → Bool) → ComparesBy post t accept → found ≡ bucket_found kind wt.word ts.spec.size (table_bytes t) (table_pos t) hash accept
  bucket_is accept alone = finds.finds (λ i. accept (bucket_pos i)) (λ i r full. compares_bucket accept alone i r) ∙ read_found element t controls are kind hash (λ i. accept (bucket_pos i))

  pub strides_counted : CountsStrides post kind t hash before after
  strides_counted = grind (arith, compares_bucket, read_end)

  pub item_found : (i : ℕ) → found ≡ Some i → (v : View T) → IsItemIn t i v → FindsItem post kind t hash (Some v)
  item_found i is v here =
      let finds_found : FindsFound post kind t hash (Some v.pos) = λ accept alone. ap Some here.pos ∙ ap (option_map bucket_pos) (sym is ∙ bucket_is accept alone) in
      let e = meets i true (rw is at finds.accepted) in
      record {
        walked = (i, here);
        accepted = subst (λ u. post u true) (view_is e.0 v (e.1.archive ∙ sym here.archive) (e.1.pos ∙ sym here.pos)) e.2;
        finds = finds_found;
        first = finds_first post t hash kind law fits (Some v.pos) finds_found;
      }

  pub none_found : found ≡ None → FindsItem post kind t hash None
  none_found is =
      let finds_found : FindsFound post kind t hash None = λ accept alone. ap (option_map bucket_pos) (sym is ∙ bucket_is accept alone) in
      record { walked = tt; accepted = tt; finds = finds_found; first = finds_first post t hash kind law fits None finds_found }
