-- A header passes the checks of reading it, and bytes that pass them begin with a header.
use Rattle.std.proofs.Common.{◌≡◌, ℕ, ◌+◌, ◌<◌, ◌≤◌, ◌^◌, List, ◌++◌, length, take, drop, get_or, Option, None, Some, refl, ap, ◌∙◌, inl, inr, arith, lit<}
use Rattle.std.specs.Prelude.{slice_index, slice_range}
use Rattle.std.specs.Int.{from_le_bytes, to_le_bytes, w16, w32, w64}
use Rattle.std.proofs.lemmas.List.{get_or-drop, get_or-take, get_or_past, length-take}
use Rattle.std.proofs.lemmas.Bool.{cases_lt}
use Rattle.std.proofs.lemmas.Nat.{from_le_bytes-to_le_bytes_2, from_le_bytes-to_le_bytes_4}
use Rattle.rkyv_container.specs.declared.contents.Contents.{Contents}
use Rattle.rkyv_container.specs.declared.header.Header.{Header}
use Rattle.rkyv_container.specs.declared.errors.ContainerError.{ContainerError}
use Rattle.rkyv_container.specs.declared.errors.ContainerError.TheVariants.{UnknownWidth}
use Rattle.rkyv_container.specs.{AllPass, FirstFails, IsChecksumField, IsHeader, IsItemCode, IsKindCode, IsWidthCode, checksum_field, code_checks, contents_bytes, flag_checks, flags_of, header_checks, magic, start_checks}
use Rattle.rkyv_container.proofs.Checking.{fails_first, fails_later, pass_both}
use Rattle.rkyv_container.proofs.HeaderBytes.{field, flags_fit, header_length, slice_join}
use Rattle.std.proofs.Common.{arith}
use Rattle.std.proofs.lemmas.Grind.{common_steps}

-- the error of the last of the four codes
pub width_fails : (f : List ℕ) → IsKindCode (slice_index f 0) → IsItemCode (slice_index f 1)
    → IsItemCode (slice_index f 2) → ¬ IsWidthCode (slice_index f 3)
    → FirstFails (code_checks f) (UnknownWidth (slice_index f 3))
width_fails f k s t w = inr (k, inr (s, inr (t, inl (w, refl))))

-- four bytes of contents pass the checks of their codes
codes_pass : (c : Contents) (f : List ℕ) → f ≡ contents_bytes c → AllPass (code_checks f)
codes_pass c f e = grind (arith, common_steps)

-- the flags or the checksum field is the first fault of a header
pub flags_fail : (b : List ℕ) (c : Contents) (e : ContainerError) → AllPass (start_checks b)
    → slice_range b 10 14 ≡ contents_bytes c
    → FirstFails (flag_checks (from_le_bytes w16 (slice_range b 14 16))
    (from_le_bytes w32 (slice_range b 24 28))) e
    → FirstFails (header_checks b) e
flags_fail b c e start codes f = grind (arith, common_steps, fails_later, codes_pass, fails_first)

flags_pass : (c : Option ℕ) (n s : ℕ) → n ≡ flags_of c → s ≡ checksum_field c
    → AllPass (flag_checks n s)
flags_pass None n s e f = (omega arith, (inr f, tt))
flags_pass (Some c) n s e f = (omega arith, (inl e, tt))

-- bytes that begin with a header pass the checks
pub header_passes : (h : Header) (b : List ℕ) → IsHeader h b → AllPass (header_checks b)
header_passes h b s =
    let long : 32 ≤ length b = header_length h b s in
    let m : slice_range b 0 8 ≡ magic = field h b 0 8 s (omega arith) (omega arith) in
    let v : slice_range b 8 10 ≡ to_le_bytes w16 1 =
    field h b 8 10 s (omega arith) (omega arith) in
    let c : slice_range b 10 14 ≡ contents_bytes h.contents =
    field h b 10 14 s (omega arith) (omega arith) in
    let f : slice_range b 14 16 ≡ to_le_bytes w16 (flags_of h.checksum) =
    field h b 14 16 s (omega arith) (omega arith) in
    let n : slice_range b 24 28 ≡ to_le_bytes w32 (checksum_field h.checksum) =
    field h b 24 28 s (omega arith) (omega arith) in
    let r : slice_range b 28 32 ≡ to_le_bytes w32 0 =
    field h b 28 32 s (omega arith) (omega arith) in
    let start : AllPass (start_checks b) = (long, (m, (ap (from_le_bytes w16) v, tt))) in
    let codes : AllPass (code_checks (slice_range b 10 14)) = codes_pass h.contents _ c in
    let flags : AllPass (flag_checks (from_le_bytes w16 (slice_range b 14 16))
    (from_le_bytes w32 (slice_range b 24 28))) =
    flags_pass h.checksum _ _
    (ap (from_le_bytes w16) f ∙ from_le_bytes-to_le_bytes_2 _ (flags_fit h.checksum))
    (ap (from_le_bytes w32) n ∙ from_le_bytes-to_le_bytes_4 _ s.fits.checksum) in
    grind (arith, common_steps, pass_both)

-- the first 32 bytes are the seven fields
fields : (b : List ℕ) → take 32 b
    ≡ slice_range b 0 8 ++ (slice_range b 8 10 ++ (slice_range b 10 14 ++ (slice_range b 14 16
    ++ (slice_range b 16 24 ++ (slice_range b 24 28 ++ slice_range b 28 32)))))
fields b = grind (arith, common_steps, slice_join)

-- lists of equal parts
joined : (a b c d e f g a' b' c' d' e' f' g' : List ℕ) → a ≡ a' → b ≡ b' → c ≡ c' → d ≡ d'
    → e ≡ e' → f ≡ f' → g ≡ g' → a ++ (b ++ (c ++ (d ++ (e ++ (f ++ g)))))
    ≡ a' ++ (b' ++ (c' ++ (d' ++ (e' ++ (f' ++ g')))))
joined a b c d e f g a' b' c' d' e' f' g' p q r s t u v = cc

-- each byte of the version is a byte
version_bytes : (b : List ℕ) → ((i : ℕ) → get_or b i 0 < 256) → (i : ℕ)
    → get_or (slice_range b 8 10) i 0 < 256
version_bytes b small i =
    elim (cases_lt i 2) [
      | inl k ↦ rw (get_or-take 2 (drop 8 b) i 0 k, get_or-drop 8 b i 0) (small (8 + i))
      | inr k ↦ rw (get_or_past (slice_range b 8 10) i 0
          (omega (arith, length-take 2 (drop 8 b)))) (lit< tt)
    ]

-- bytes with a header in its fields begin with that header
pub header_from : (h : Header) (b : List ℕ) → ((i : ℕ) → get_or b i 0 < 256)
    → AllPass (start_checks b) → slice_range b 10 14 ≡ contents_bytes h.contents
    → IsChecksumField h.checksum (slice_range b 14 16) (slice_range b 24 28)
    → to_le_bytes w64 h.len ≡ slice_range b 16 24 → h.len < 2 ^ 64
    → to_le_bytes w32 0 ≡ slice_range b 28 32 → IsHeader h b
header_from h b small start c s n nf r = grind (arith, common_steps, version_bytes b small, fields b, joined)
