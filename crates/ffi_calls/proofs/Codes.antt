-- Contents and collections by their codes.
use Rattle.std.proofs.Common.{◌≡◌, ℕ, ◌∙◌, List, MatchOption, None, Option, Some, ap, subst, sym}
use Rattle.std.specs.Prelude.{pos as int}
use Rattle.rkyv_container.specs.declared.contents.Contents.{Contents}
use Rattle.rkyv_container.proofs.HeaderBytes.{contents_equal, item_unique, kind_unique, width_unique}
use Rattle.ffi_calls.specs.{Explains, ExplainsByCodes, HasCodes, Opens, OpensByCodes, OpensOwn, OpensOwnCodes, collection_of, collection_spec, explained, limit_of}
use Rattle.ffi_calls.specs.declared.collection.Collection.{Collection}
use Rattle.ffi_calls.specs.declared.containers.Codes.{Codes}
use Rattle.ffi_calls.specs.declared.explanation.Explanation.{Explanation}
use Rattle.ffi_calls.proofs.Statuses.{opened}

-- contents with equal codes are equal
pub codes_unique : (codes : Codes) (c d : Contents) → HasCodes codes c → HasCodes codes d → c ≡ d
codes_unique codes c d h k =
    contents_equal c d (kind_unique _ _ (h.0 ∙ sym k.0)) (item_unique _ _ (h.1 ∙ sym k.1))
    (item_unique _ _ (h.2 ∙ sym k.2)) (width_unique _ _ (h.3 ∙ sym k.3))

-- a call that opens exactly `c` opens exactly the contents with its codes
pub opens_codes : (codes : Codes) (b : List ℕ) (status : ℕ) (c : Contents) → HasCodes codes c
    → OpensOwn c b status → OpensOwnCodes codes b status
opens_codes codes b status c h o d a k = (
  λ e. subst (λ (x : Contents). HasCodes codes x) (sym ((o d a k).0 e)) h,
  λ g. (o d a k).1 (codes_unique codes d c g h),
)

opened_of : (o : Option Collection) (b : List ℕ) (result : Explanation)
    → MatchOption o (result ≡ explained 7 (int 0) 0 0) (λ c. Explains (limit_of c.wide) (collection_spec c) b result)
    → MatchOption o (result.status ≡ 7) (λ c. Opens (limit_of c.wide) (collection_spec c) b result.status)
opened_of None b result h = ap (λ r. r.status) h
opened_of (Some c) b result h = opened h

-- the status of the explanation by codes is the status of opening by these codes
pub opened_by_codes : (codes : Codes) (b : List ℕ) (result : Explanation) → ExplainsByCodes codes b result → OpensByCodes codes b result.status
opened_by_codes codes = opened_of (collection_of codes)
