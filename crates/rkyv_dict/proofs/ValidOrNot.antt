-- Bytes are valid, or have a first fault.
use Rattle.std.proofs.Common.{◌≡◌, ℕ, zero, suc, ℤ, pos, negsuc, ◌+◌, ◌*◌, ◌-◌, ◌%◌, ◌<◌, ◌≤◌, refl, sym, subst, arith, inl, inr, List, [], ◌∷◌, length, slice_range}
use Rattle.std.proofs.lemmas.Grind.{common_steps}
use Rattle.std.specs.Prelude.{◌⊎◌}
use Rattle.std.specs.Int.{Width, w32}
use Rattle.std.specs.Str.{is_utf8}
use Rattle.std.proofs.lemmas.Bool.{both_ways, cases_Bool, cases_eq, cases_lt}
use Rattle.std.proofs.lemmas.Int.{ints}
use Rattle.std.proofs.lemmas.Str.{IsUtf8-from_is_utf8, is_utf8-from_IsUtf8}
use Rattle.rkyv_base.specs.declared.errors.VerifyError.{VerifyError}
use Rattle.rkyv_base.specs.declared.errors.VerifyError.TheVariants.{InvalidLength, InvalidValue, OutOfRange, Refused, Unaligned, UnwrappedControlByte, WrongNumberOfElements}
use Rattle.rkyv_base.specs.{AccessFails, ElementSpec, IsValidArchive, PartFails, PartIn, entry_spec, fixed_bytes, inline_text, is_out_of_line, out_of_line_begin, out_of_line_length, scalar_spec, text_size, text_spec, unsigned, value_offset, whole_size}
use Rattle.rkyv_table.specs.{AreValidAt, FailsInside, FirstFails, IsPart, IsWrappedAt, TableAt, TableFailsAt, bucket_at, cap_at, control_count, controls_at, decode_begin, len_at, part_size, table_spec, walk}
use Rattle.rkyv_dict.specs.{ChecksHaveResult, IsMapArchive, MapTypes, MapValidationFails, number_parts, pair_spec, parts_in, text_parts, word_of}
use Rattle.rkyv_dict.specs.declared.form.ArchiveWidth.{ArchiveWidth}
use Rattle.rkyv_dict.specs.declared.form.Kind.{Kind}
use Rattle.rkyv_dict.specs.declared.form.Kind.TheVariants.{Num, Text}

-- the bytes at `p` are valid or have a first fault, with their parts in any range
abbrev IsDecided : ElementSpec → List ℕ → Type 0
IsDecided s b = (p lo hi : ℕ) → ((l : ℕ) × s.is_valid b p lo hi l) ⊎ ((e : VerifyError) × s.fails b p lo hi e)

-- a validation goes on by `next`, or fails as its first part
after_valid : {A B : Type 0} {fails fails' : VerifyError → Type 0} → A ⊎ ((e : VerifyError) × fails e) → ((e : VerifyError) → fails e → fails' e) → (A → B ⊎ ((e : VerifyError) × fails' e))
    → B ⊎ ((e : VerifyError) × fails' e)
after_valid (inr fault) because next = inr (fault.0, because fault.0 fault.1)
after_valid (inl part) because next = next part

-- a part is in the range and aligned, or has a fault
part_or_fault : (begin : ℤ) (size align lo hi : ℕ) → ((at : ℕ) × PartIn begin size align lo hi at) ⊎ ((e : VerifyError) × PartFails begin size align lo hi e)
part_or_fault (negsuc n) size align lo hi = inr (OutOfRange (negsuc n) size, inl (inl (omega (arith, ints)), refl))
part_or_fault (pos at) size align lo hi = elim (cases_lt at lo) [
  | inl low ↦ inr (OutOfRange (pos at) size, inl (inl (omega (arith, ints)), refl))
  | inr above ↦ elim (cases_lt hi (at + size)) [
    | inl high ↦ inr (OutOfRange (pos at) size, inl (inr (omega (arith, ints)), refl))
    | inr below ↦ elim (cases_eq (at % align) 0) [
      | inl aligned ↦ inl (at, record { begins = refl; above = above; below = below; aligned = aligned })
      | inr unaligned ↦ inr (Unaligned at align, inr (at, refl, above, below, unaligned, refl))
    ]
  ]
]

-- ---- elements

number_decided : (w : Width) (b : List ℕ) → IsDecided (scalar_spec (unsigned w)) b
number_decided w b p lo hi = inl (lo, (refl, tt))

text_decided : (w : Width) (b : List ℕ) → IsDecided (text_spec w) b
text_decided w b p lo hi =
    let s = fixed_bytes w b p in
    let n = out_of_line_length w s in
    elim (cases_Bool (is_out_of_line s)) [
      | inr inline ↦ elim (cases_Bool (is_utf8 (inline_text s))) [
        | inl good ↦ inl (lo, inl (inline, IsUtf8-from_is_utf8 (inline_text s) good, refl))
        | inr bad ↦ inr (InvalidValue p, inl (inline, λ u. both_ways (is_utf8 (inline_text s)) bad (is_utf8-from_IsUtf8 (inline_text s) u), refl))
      ]
      | inl out ↦ elim (cases_lt (text_size w) n) [
        | inr short ↦ inr (InvalidValue p, inr (out, inl (short, refl)))
        | inl long ↦ elim (part_or_fault (out_of_line_begin w s p) n 1 lo hi) [
          | inr fault ↦ inr (fault.0, inr (out, inr (inl (long, fault.1))))
          | inl part ↦
              let t = slice_range b part.0 (part.0 + n) in
              elim (cases_Bool (is_utf8 t)) [
                | inl good ↦ inl (part.0 + n, inr (out, long, part.0, part.1, IsUtf8-from_is_utf8 t good, refl))
                | inr bad ↦ inr (InvalidValue p, inr (out, inr (inr (long, part.0, part.1, λ u. both_ways (is_utf8 t) bad (is_utf8-from_IsUtf8 t u), refl))))
              ]
        ]
      ]
    ]

entry_decided : (k v : ElementSpec) (b : List ℕ) → IsDecided k b → IsDecided v b → IsDecided (entry_spec k v) b
entry_decided k v b key value p lo hi = elim (cases_lt 1073741824 (whole_size k v)) [
  | inl large ↦ inr (Refused 0, inl (large, refl))
  | inr small ↦
      after_valid (key p lo hi) (λ e h. inr (small, inl h))
      (λ first. after_valid (value (p + value_offset k v) first.0 hi) (λ e h. inr (small, inr (first.0, first.1, h))) (λ second. inl (second.0, (small, first.0, first.1, second.1))))
]

-- ---- tables

items_decided : (s : ElementSpec) (at : ℕ → ℕ) (b : List ℕ) → IsDecided s b → (hi : ℕ) (is : List ℕ) (lo : ℕ)
    → ((l : ℕ) × AreValidAt s at b hi is lo l) ⊎ ((e : VerifyError) × FirstFails s at b hi is lo e)
items_decided s at b one hi [] lo = inl (lo, refl)
items_decided s at b one hi (i ∷ is) lo =
    after_valid (one (at i) lo hi) (λ e h. inl h)
    (λ first. after_valid (items_decided s at b one hi is first.0) (λ e h. inr (first.0, first.1, h)) (λ others. inl (others.0, (first.0, first.1, others.1))))

module _ (cap : ℕ) (controls : List ℕ) where
  wrapped_or_not : (q : ℕ) → IsWrappedAt cap controls q ⊎ (IsWrappedAt cap controls q → ⊥)
  wrapped_or_not q = grind (arith, common_steps)

  -- the first control byte from `cap` on and below `cap + n` that is not as it must be, if any
  first_unwrapped : (n : ℕ) → ((q : ℕ) → cap ≤ q → q < cap + n → IsWrappedAt cap controls q)
      ⊎ ((q : ℕ) × (cap ≤ q) × (q < cap + n) × (IsWrappedAt cap controls q → ⊥) × ((r : ℕ) → cap ≤ r → r < q → IsWrappedAt cap controls r))
  first_unwrapped zero = inl (λ q lo hi. absurd (omega arith))
  first_unwrapped (suc n) = elim (first_unwrapped n) [
    | inr first ↦ inr (first.0, first.1, omega (arith, first.2), first.3, first.4)
    | inl all ↦ elim (wrapped_or_not (cap + n)) [
      | inr unlike ↦ inr (cap + n, omega arith, omega arith, unlike, all)
      | inl here ↦ inl (λ q lo hi. elim (cases_eq q (cap + n)) [
        | inl e ↦ subst (IsWrappedAt cap controls) (sym e) here
        | inr ne ↦ all q lo (omega arith)
      ])
    ]
  ]

range_count : (b : List ℕ) (at n : ℕ) → at + n ≤ length b → length (slice_range b at (at + n)) ≡ n
range_count b at n inside = grind (arith, common_steps)

module _ (s : ElementSpec) (b : List ℕ) (one : IsDecided s b) (cap len lo : ℕ) (room : len < cap) where
  inside_decided : (begin : ℕ) → begin + part_size s.size cap ≤ length b → IsPart s b cap len lo begin ⊎ ((e : VerifyError) × FailsInside s b cap len lo begin e)
  inside_decided begin inside =
      let controls = controls_at s.size b begin cap in
      let full = walk controls cap in
      let above : cap ≤ control_count cap = omega arith in
      elim (items_decided s (bucket_at s.size begin cap) b one begin full lo) [
        | inr fault ↦ inr (fault.0, inl fault.1)
        | inl items ↦ elim (cases_eq (length full) len) [
          | inr other ↦ inr (WrongNumberOfElements len (length full), inr (items.0, items.1, inl (other, refl)))
          | inl count ↦ elim (first_unwrapped cap controls (control_count cap - cap)) [
            | inr first ↦ inr (
              UnwrappedControlByte first.0,
              inr (
                items.0,
                items.1,
                inr (count, first.0, record { from = first.1; below = omega (arith, above, first.2); unlike = first.3; least = first.4 }, refl),
              ),
            )
            | inl all ↦ inl (record {
              controls = record {
                room = room;
                full = count;
                wrapped = record {
                  count = range_count b (begin + cap * s.size) (control_count cap) (omega (arith, inside));
                  repeated = λ q from two below. (all q from (omega (arith, above, below))).0 two;
                  past = λ q two below. (all q (omega (arith, two)) (omega (arith, above, below))).1 two;
                };
              };
              last = items.0;
              items = items.1;
            })
          ]
        ]
      ]

table_at_decided : (s : ElementSpec) (b : List ℕ) → IsDecided s b → (decoded : ℤ) (cap len lo hi : ℕ) → hi ≤ length b
    → ((l : ℕ) × TableAt s b decoded cap len lo hi l) ⊎ ((e : VerifyError) × TableFailsAt s b decoded cap len lo hi e)
table_at_decided s b one decoded cap len lo hi inside = elim (cases_lt len cap) [
  | inl room ↦
      after_valid (part_or_fault decoded (part_size s.size cap) s.align lo hi) (λ e h. inr (inl (room, h)))
      (λ part. after_valid (inside_decided s b one cap len lo room part.0 (omega (arith, inside, part.1.below))) (λ e h. inr (inr (room, part.0, part.1, h)))
      (λ is. inl (part.0 + part_size s.size cap, inr (part.0, part.1, is, refl))))
  | inr above ↦ elim (cases_eq len 0) [
    | inl none ↦ inl (lo, inl (none, omega arith, refl))
    | inr some ↦ inr (InvalidLength len cap, inl (above, omega arith, refl))
  ]
]

-- ---- archives

module _ (w : Width) (s : ElementSpec) (limit : ℕ) (b : List ℕ) (one : IsDecided s b) where
  abbrev size : ℕ
  size = (table_spec w s).size

  abbrev align : ℕ
  align = (table_spec w s).align

  abbrev root : ℕ
  root = length b - size

  access_decided : IsValidArchive limit (table_spec w s) b ⊎ ((e : VerifyError) × AccessFails limit (table_spec w s) b e)
  access_decided = elim (cases_lt (length b) size) [
    | inl short ↦ inr (OutOfRange _ _, inl (inl short, refl))
    | inr inside ↦ elim (cases_lt limit (length b)) [
      | inl long ↦ inr (OutOfRange _ _, inl (inr long, refl))
      | inr within ↦ elim (cases_eq (root % align) 0) [
        | inr unaligned ↦ inr (Unaligned root align, inr (inl (inside, within, unaligned, refl)))
        | inl aligned ↦
            after_valid (table_at_decided s b one (decode_begin w s.size b root) (cap_at w b root) (len_at w b root) 0 root (omega arith)) (λ e h. inr (inr (inside, within, aligned, h)))
            (λ valid. inl (record { within = within; inside = inside; aligned = aligned; valid = valid }))
      ]
    ]
  ]

map_decided : (k : MapTypes) (b : List ℕ) → IsDecided k.spec b → IsMapArchive k b ⊎ ((e : VerifyError) × MapValidationFails k b e)
unfolding IsMapArchive MapValidationFails
map_decided k b one = access_decided k.word (pair_spec k) k.limit b (entry_decided k.spec k.spec b one one)

check_result : (kind : Kind) (bits : ArchiveWidth) (b : List ℕ) → IsMapArchive (parts_in kind bits) b ⊎ ((e : VerifyError) × MapValidationFails (parts_in kind bits) b e)
check_result Num bits b = map_decided (number_parts bits) b (number_decided w32 b)
check_result Text bits b = map_decided (text_parts bits) b (text_decided (word_of bits) b)

pub checks_have_result : ChecksHaveResult
checks_have_result form b = check_result form.kind form.bits b
