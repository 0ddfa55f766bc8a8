-- A written table is valid and represents its pairs, in every archive with its bytes.
use Rattle.std.proofs.Common.{arith, refl, sym, ◌∙◌, ap, subst, inl, inr, length-append}
use Rattle.std.proofs.lemmas.Grind.{common_steps}
use Rattle.std.proofs.Math.Nat.{le-max_right}
use Rattle.std.proofs.lemmas.Bool.{ne_eqb}
use Rattle.std.proofs.lemmas.Int.{ints}
use Rattle.std.proofs.lemmas.List.{length-map, length-replicate}
use Rattle.std.specs.Int.{Width}
use Rattle.std.specs.Prelude.{◌≡◌, ℕ, ◌+◌, ◌*◌, ◌%◌, ◌<◌, ◌≤◌, pos, ◌+ℤ◌, ◌-ℤ◌, List}
use Rattle.std.specs.Prelude.{[], ◌++◌, length, slice_get, slice_index, Option, Some, slice_range}
use Rattle.rkyv_base.specs.{ElementSpec, Format, IsArchiveWord, IsElement, IsFormat, OccursAt}
use Rattle.rkyv_base.specs.{padding, round_up, signed_at, zeros}
use Rattle.rkyv_base.specs.Lemmas.Bytes.{occurs_back, occurs_front}
use Rattle.rkyv_base.specs.Lemmas.Entry.{round_up-multiple}
use Rattle.rkyv_table.specs.Lemmas.Buckets.{images_length}
use Rattle.rkyv_table.specs.{ArePlaced, AreValidAt, AreValidControls, AreWrittenControls}
use Rattle.rkyv_table.specs.{BucketsRepresent, IsHeader, IsPart, IsValidTable, TableAt, TableBytes}
use Rattle.rkyv_table.specs.{TableParts, TableRepresents, TableResolver, bucket_at, cap_at}
use Rattle.rkyv_table.specs.{capacity, controls_at, decode_begin, filled_from, hashes_of}
use Rattle.rkyv_table.specs.{header_bytes, len_at, part_size, resolved_capacity, table_format}
use Rattle.rkyv_table.specs.{table_spec, walk}
use Rattle.rkyv_table.specs.Lemmas.HeaderReads.{cap_reads, distance_reads, header_length, len_reads}
use Rattle.rkyv_table.specs.Lemmas.SlotSound.{slots_sound}
use Rattle.rkyv_table.specs.Lemmas.SlotWalk.{filled_count, walk_filled}

-- some bucket stays empty
pub capacity_above : (len : ℕ) (factor : ℕ × ℕ) → 0 < len → len < capacity len factor
capacity_above len factor h = grind (arith, common_steps, le-max_right, ne_eqb)

-- there are at least as many buckets as items
below_capacity : (len : ℕ) (factor : ℕ × ℕ) → len ≤ capacity len factor
below_capacity n factor = grind (arith, common_steps, capacity_above)

module _ {X R : Type 0} (s : ElementSpec) (laws : IsElement s) (represents : List ℕ → ℕ → X
    → Type 0) (f : Format X R) (fl : IsFormat s represents f)
    (c : List ℕ) (p cap : ℕ) (pairs : List (ℕ × X)) (slots : List (Option X)) (controls : List ℕ)
    (placed : ArePlaced cap pairs slots controls) (room : length pairs < cap) where
  written_accepted : AreValidControls cap (length pairs) controls
  written_accepted = record {
    room = room;
    full = ap length (walk_filled cap pairs slots controls placed) ∙ filled_count 0 slots
        ∙ placed.slotted.full ∙ placed.written.placed.count ∙ length-map pairs (λ (y : ℕ × X). y.0);
    wrapped = placed.written.wrapped;
  }

  module _ (z : ℕ) (bytes : List ℕ) (t : TableBytes s f slots controls p z bytes)
      (sits : OccursAt c p bytes) where
    abbrev begin : ℕ
    begin = round_up (p + length t.part) s.align

    abbrev pad : List ℕ
    pad = zeros (padding s.align (p + length t.part))

    pad_length : length pad ≡ padding s.align (p + length t.part)
    pad_length = length-replicate {A = ℕ} (padding s.align (p + length t.part)) 0

    pub begin_aligned : begin % s.align ≡ 0
    begin_aligned = round_up-multiple (p + length t.part) s.align laws.align_is

    in_order : OccursAt c p (t.part ++ (pad ++ (t.buckets ++ controls)))
    in_order = subst (OccursAt c p) t.is sits

    area : OccursAt c begin (t.buckets ++ controls)
    area = grind (arith, common_steps, pad_length, occurs_back, in_order)

    slots_size : length slots * s.size ≡ cap * s.size
    slots_size = ap (λ k. k * s.size) placed.slotted.count

    pub buckets_size : length t.buckets ≡ cap * s.size
    buckets_size = grind (arith, common_steps, images_length, slots_size)

    pub controls_begin : z ≡ begin + cap * s.size
    controls_begin = t.at ∙ ap (λ k. begin + k) slots_size

    pub bytes_end : p + length bytes ≡ begin + part_size s.size cap
    bytes_end = grind (arith, common_steps, length-append, pad_length, buckets_size)

    controls_sit : OccursAt c (begin + cap * s.size) controls
    controls_sit = grind (arith, common_steps, buckets_size, occurs_back, area)

    pub controls_there : controls_at s.size c begin cap ≡ controls
    controls_there = ap (λ k. slice_range c (begin + cap * s.size) (begin + cap * s.size + k))
        (sym placed.written.wrapped.count) ∙ controls_sit.there

    items : (l : ℕ) × AreValidAt s (bucket_at s.size begin cap) c begin (filled_from 0 slots) p l
        × (l ≤ p + length t.part) × ((i : ℕ) (x : X) → slice_get slots i ≡ Some (Some x)
        → represents c (bucket_at s.size begin cap (0 + i)) x)
    items =
        let at : begin + length slots * s.size ≡ z = sym t.at in
        let n : 0 + length slots ≡ cap = omega (arith, placed.slotted.count) in
        slots_sound s laws represents f fl c cap begin begin_aligned slots 0 p z t.part t.buckets
        t.resolvers n t.made t.images
        (occurs_front c p t.part (pad ++ (t.buckets ++ controls)) in_order)
        (occurs_front c begin t.buckets controls area) at (omega arith)

    pub part_valid : IsPart s c cap (length pairs) p begin
    part_valid = record {
      controls = subst (AreValidControls cap (length pairs)) (sym controls_there) written_accepted;
      last = items.0;
      items = subst (λ is. AreValidAt s (bucket_at s.size begin cap) c begin is p items.0)
          (sym (ap (λ (cs : List ℕ). walk cs cap) controls_there
          ∙ walk_filled cap pairs slots controls placed)) items.1;
    }

    pub buckets_represent : BucketsRepresent s.size represents c cap begin pairs
    buckets_represent = record {
      homes = placed.homes;
      hashes = placed.hashes;
      controls =
          subst (AreWrittenControls cap (hashes_of pairs) placed.homes) (sym controls_there)
          placed.written;
      items = λ i x e.
          let n : 0 + slice_index placed.homes i ≡ slice_index placed.homes i = omega arith in
          subst (λ k. represents c (bucket_at s.size begin cap k) x) n
          (items.3 (slice_index placed.homes i) x (placed.slotted.at i x e));
    }

module _ {X R : Type 0} (w : Width) (kind : IsArchiveWord w) (s : ElementSpec) (laws : IsElement s)
    (represents : List ℕ → ℕ → X
    → Type 0) (f : Format X R) (fl : IsFormat s represents f) (factor : ℕ × ℕ)
  where
    abbrev Sound : List (ℕ × X) → List ℕ → ℕ → ℕ → ℕ → Type 0
    Sound pairs c p p0 hi = (l : ℕ) × IsValidTable w s c p p0 hi l
        × TableRepresents w s represents factor c p pairs

    module _ (pairs : List (ℕ × X)) (r : TableResolver) (c : List ℕ) (p0 p : ℕ) (part out : List ℕ)
        (t : TableParts w s f factor pairs p0 part r)
        (i : IsHeader w r.len (resolved_capacity r) r.pos p out)
        (sp : OccursAt c p0 part) (so : OccursAt c p out) where
      header : OccursAt c p (header_bytes w i.distance r.len (resolved_capacity r))
      header = subst (OccursAt c p) i.is so

      capacity_is : resolved_capacity r ≡ capacity (length pairs) factor
      capacity_is = ap (λ n. capacity n r.load_factor) t.len ∙ ap (capacity (length pairs)) t.factor

      len_decoded : len_at w c p ≡ length pairs
      len_decoded = grind (arith, below_capacity, len_reads, header)

      cap_decoded : cap_at w c p ≡ capacity (length pairs) factor
      cap_decoded =
          cap_reads w kind i.distance r.len (resolved_capacity r) c p header t.fits ∙ capacity_is

      distance_decoded : signed_at w c p ≡ i.distance
      distance_decoded =
          distance_reads w kind i.distance r.len (resolved_capacity r) c p header i.fits

      none_sound : pairs ≡ [] → Sound pairs c p p0 (p0 + length part)
      none_sound e =
          let n : length pairs ≡ 0 = ap length e in
          let z : capacity (length pairs) factor ≡ 0 = ap (λ k. capacity k factor) n in (
            p0,
            inl (len_decoded ∙ n, cap_decoded ∙ z, refl),
            grind (arith, len_decoded, cap_decoded),
          )

      module _ (slots : List (Option X)) (controls : List ℕ) (some : 0 < length pairs)
          (placed : ArePlaced (capacity (length pairs) factor) pairs slots controls)
          (b : TableBytes s f slots controls p0 r.pos part) where
        abbrev C : ℕ
        C = capacity (length pairs) factor

        room : length pairs < C
        room = capacity_above (length pairs) factor some

        abbrev B : ℕ
        B = begin s laws represents f fl c p0 C pairs slots controls placed room r.pos part b sp

        distance_is : i.distance ≡ pos r.pos -ℤ pos p
        distance_is = grind arith

        begin_is : decode_begin w s.size c p ≡ pos B
        begin_is =
            let z =
            controls_begin s laws represents f fl c p0 C pairs slots controls placed room r.pos part
            b sp in
            let e : (pos p +ℤ (pos r.pos -ℤ pos p)) -ℤ pos (C * s.size) ≡ pos B =
            omega (arith, ints, z) in
            ap (λ d. (pos p +ℤ d) -ℤ pos (cap_at w c p * s.size)) (distance_decoded ∙ distance_is)
            ∙ ap (λ k. (pos p +ℤ (pos r.pos -ℤ pos p)) -ℤ pos (k * s.size)) cap_decoded ∙ e

        table_at : TableAt s c (pos B) C (length pairs) p0 (p0 + length part)
            (B + part_size s.size C)
        table_at =
            let e =
            bytes_end s laws represents f fl c p0 C pairs slots controls placed room r.pos part b
            sp in
            inr (
              B,
              record {
                begins = refl;
                above = omega arith;
                below = omega (arith, e);
                aligned =
                    begin_aligned s laws represents f fl c p0 C pairs slots controls placed room
                    r.pos part b sp;
              },
              part_valid s laws represents f fl c p0 C pairs slots controls placed room r.pos part b
                  sp,
              refl,
            )

        some_sound : Sound pairs c p p0 (p0 + length part)
        some_sound = (
          B + part_size s.size C,
          grind (arith, begin_is, cap_decoded, len_decoded, table_at),
          record {
            len = len_decoded;
            cap = cap_decoded;
            buckets = λ h. (
              B,
              sym begin_is,
              buckets_represent s laws represents f fl c p0 C pairs slots controls placed room r.pos
                  part b sp,
            );
          },
        )

      table_sound : Sound pairs c p p0 (p0 + length part)
      table_sound = elim t.written [
        | inl h ↦ none_sound h.0
        | inr h ↦ some_sound h.0 h.1 h.2.0 h.2.1 h.3
      ]

    -- the format of a table is lawful: written tables are valid and represent their pairs
    pub table_is_format : IsFormat (table_spec w s) (TableRepresents w s represents factor)
        (table_format w s f factor)
    table_is_format = record {
      size_exact = λ pairs r p out i. ap length i.is
          ∙ header_length w kind i.distance r.len (resolved_capacity r);
      exclusive = grind (arith, common_steps);
      sound =
          λ pairs r c p0 p part out t i sp so o al. table_sound pairs r c p0 p part out t i sp so;
    }
