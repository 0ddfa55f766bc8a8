-- Writing a list with its header, step by step, and the written list.
use Rattle.std.proofs.Common.{◌≡◌, ℕ, ◌+◌, ◌-◌, ◌*◌, ◌%◌, ◌≤◌, ◌∙◌, inl, inr, refl, sym, ap, subst, arith, append_assoc, length-append, length-take, Bool, List, [], ◌++◌, ◌^◌, ◌<◌, length, take, Err, Ok, Result}
use Rattle.std.specs.Int.{Width, byte_len}
use Rattle.std.proofs.lemmas.List.{length-map, length-replicate, length-set, take_all}
use Rattle.std.proofs.lemmas.List.Elements.{Contains-get_or}
use Rattle.rkyv_base.specs.{Appends, ElementMembers, ElementSpec, Fails, Format, IsArchiveWord, IsElement, IsFormat, ModifiesOnly, OccursAt, Output, StaysValid, Viewable, WidthMembers, end_of, padding, round_up, zeros}
use Rattle.rkyv_base.specs.Lemmas.Bytes.{occurs_back, occurs_front}
use Rattle.rkyv_base.specs.Lemmas.Entry.{round_up-multiple}
use Rattle.rkyv_base.specs.Lemmas.Text.{by_archive_word}
use Rattle.rkyv_base.specs.declared.element.PartRange.{PartRange}
use Rattle.rkyv_base.specs.declared.errors.VerifyError.{VerifyError}
use Rattle.rkyv_base.specs.declared.element.HasSpec.{Ghosts as Specs}
use Rattle.rkyv_base.specs.declared.element.Represents.{Ghosts as Related}
use Rattle.rkyv_base.specs.declared.view.View.{View}
use Rattle.rkyv_base.specs.declared.width.Width.{Ghosts as Widths}
use Rattle.rkyv_base.specs.declared.width.Word.{Ghosts as Words}
use Rattle.rkyv_base.specs.Lemmas.Writing.{appends_after, end-appends}
use Rattle.rkyv_scan.specs.{generic_kind}
use Rattle.rkyv_scan.specs.Lemmas.KindLaws.{word_lawful}
use Rattle.std.specs.Prelude.{slice_set, slice_index}
use Rattle.std.proofs.lemmas.Option.{slice_get_within}
use Rattle.rkyv_table.specs.Lemmas.Homes.{home_count, home_pos}
use Rattle.rkyv_table.specs.Lemmas.TableLaws.{table_element}
use Rattle.rkyv_table.specs.{IsFirstOf, IsHeader, IsValidAround, IsWalked, IsWrittenOf, ItemsWrittenRepresent, KeptByWrites, LookupFindsFirst, RepresentedWereWritten, TableIn, TableRepresents, TableResolver, VisitsHomes, WalkVisitsHomes, WalkedAreFull, WrittenTablesPass, cap_at, capacity, hashes_of, item_at, items_of, len_at, resolved_capacity, table_controls, table_format, table_spec}
use Rattle.rkyv_end_to_end.specs.{Encoding, HasListBytes, IsWrittenList, ItemsAreReplaced, ListBytes, ListInput, ListsAreFound, ListsAreValid, LookOverFails, LooksOver, LooksOverList, LookupsFindListed, ReportsList, ReportsTable, VisitsItems, WriteAndFindFails, WroteList, table_of, table_with}
use Rattle.rkyv_end_to_end.specs.declared.looking.LookError.{LookError}
use Rattle.rkyv_end_to_end.specs.declared.looking.LookError.TheVariants.{Memory, Verify}
use Rattle.rkyv_end_to_end.specs.declared.looking.TableReport.{TableReport}
use Rattle.rkyv_end_to_end.specs.declared.whole.ListError.TheVariants.{Look}

-- the members of a width, from those of its two traits
abbrev pub width_members : {W P : Type 0} → Words W → Widths W P → WidthMembers
width_members w v = record {
  word = w.word;
  kind = w.kind;
  LIMIT = v.LIMIT;
  ALIGN = v.ALIGN;
  MAX_CAPACITY = v.MAX_CAPACITY;
  TABLE_SIZE = v.TABLE_SIZE;
  INDEX_SIZE = v.INDEX_SIZE;
  TEXT_SIZE = v.TEXT_SIZE;
  TEXT_LIMIT = v.TEXT_LIMIT;
}

-- the members of an element, from those of its two traits
abbrev pub element_members : {T V : Type 0} → Specs T → Related T V → ElementMembers V
element_members e v = record { spec = e.spec; laws = e.laws; represents = v.represents }

-- the buffer has room for a header
pub header_small : (w : Width) → IsArchiveWord w → (size align : ℕ) → align ≡ byte_len w → size ≡ 3 * align → size ≤ 24
header_small w kind size align a t =
    let small : 3 * byte_len w ≤ 24 = by_archive_word (λ v. 3 * byte_len v ≤ 24) (omega arith) (omega arith) w kind in
    omega arith

pub room_of : (n m : ℕ) (xs : List ℕ) → n ≡ m → m ≤ length xs → length (take n xs) ≡ m
room_of n m xs e h = length-take n xs ∙ omega arith

-- the header that was resolved is the image of the list
pub image_of : (w : Width) (r : TableResolver) (len : ℕ) (load_factor : ℕ × ℕ) (p q : ℕ) (out : List ℕ) → r.len ≡ len → r.load_factor ≡ load_factor → p ≡ q
    → IsHeader w len (capacity len load_factor) r.pos p out → IsHeader w r.len (resolved_capacity r) r.pos q out
image_of w r len load_factor p q out l e at h =
    subst (λ (n : ℕ). IsHeader w n (capacity n r.load_factor) r.pos q out) (sym l)
    (subst (λ (x : ℕ × ℕ). IsHeader w len (capacity len x) r.pos q out) (sym e)
    (subst (λ (n : ℕ). IsHeader w len (capacity len load_factor) r.pos n out) at h))

-- the table, the zeros and the header, one after the other
pub list_wrote : {X : Type 0} (align : ℕ) (f : Format (List (ℕ × X)) TableResolver) (pairs : List (ℕ × X)) (o o1 o2 o3 : Output) (part : List ℕ) (r : TableResolver) (out : List ℕ) (end p : ℕ)
    → Appends o o1 part → f.parts pairs (end_of o) part r → Appends o1 o2 (zeros (padding align (end_of o1))) → f.image pairs r (end_of o2) out → Appends o2 o3 out
    → end ≡ end_of o1 → p ≡ end_of o2 → (bytes : List ℕ) × Appends o o3 bytes × ListBytes align f pairs (end_of o) end p bytes
list_wrote align f pairs o o1 o2 o3 part r out end p a table_parts b image c ends at =
    let z : List ℕ = zeros (padding align (end_of o1)) in
    let n : length z ≡ padding align (end_of o1) = length-replicate (padding align (end_of o1)) 0 in
    let next : end_of o2 ≡ round_up (end_of o1) align = end-appends o1 o2 z b ∙ ap (λ k. end_of o1 + k) n in
    let all : Appends o o3 ((part ++ z) ++ out) = appends_after o o2 o3 (part ++ z) out (appends_after o o1 o2 part z a b) c in
    let P = λ (e q : ℕ). ListBytes align f pairs (end_of o) e q (part ++ (z ++ out)) in
    let there : P (end_of o1) (end_of o2) = record {
      part = part;
      resolver = r;
      header = out;
      parts = table_parts;
      image = image;
      ends = end-appends o o1 part a;
      at = next;
      is = refl;
    } in
    (part ++ (z ++ out), subst (Appends o o3) (append_assoc part z out) all, subst (P end) (sym at) (subst (λ e. P e (end_of o2)) (sym ends) there))

-- the bytes appended to a writer from position 0 are at its end
pub appended_sits : (o o' : Output) (x : List ℕ) → o.start ≡ 0 → Appends o o' x → OccursAt o'.bytes (end_of o) x
appended_sits o o' x from a =
    let b : List ℕ = o.bytes ++ x in
    let k : 0 + length b - 0 ≡ length b = omega arith in
    let all : OccursAt b 0 b = record { inside = omega arith; there = rw k (take_all (length b) b (omega arith)) } in
    let at : 0 + length o.bytes ≡ end_of o = omega (arith, from) in
    subst (λ (c : List ℕ). OccursAt c (end_of o) x) (sym a.bytes) (subst (λ q. OccursAt b q x) at (occurs_back b 0 o.bytes x all))

-- the walk over a table that was written from pairs. `none_visits`: if there are no pairs
items_visited : {X : Type 0} (w : Width) (s : ElementSpec) (represents : List ℕ → ℕ → X → Type 0) (visits : WalkVisitsHomes) (c : List ℕ) (p : ℕ) (pairs : List (ℕ × X)) (is : IsWrittenOf w s.size represents c p pairs)
    → (none_visits : hashes_of pairs ≡ [] → VisitsHomes (cap_at w c p) [] (table_controls w c p)) → VisitsItems (record { word = w; spec = s; bytes = c; pos = p }) represents pairs
items_visited w s represents visits c p pairs is none_visits =
    let controls : List ℕ = table_controls w c p in
    record {
      homes = is.homes;
      written = is.written;
      at = is.at;
      visits = elim is.written.placed [
        | inl none ↦ subst (λ (xs : List ℕ). VisitsHomes (cap_at w c p) xs controls) (sym none.1) (none_visits none.0)
        | inr some ↦ visits (cap_at w c p) (hashes_of pairs) is.homes controls some.0 is.written.fit some.1
      ];
    }

module _ {X R : Type 0} (w : Width) (items : Encoding X R) (load_factor : ℕ × ℕ) (were : RepresentedWereWritten w items.spec items.represents load_factor) (visits : WalkVisitsHomes)
    (none_visits : (controls : List ℕ) → VisitsHomes 0 [] controls) (kind : IsArchiveWord w) (law : IsElement items.spec)
    (format : IsFormat (table_spec w items.spec) (TableRepresents w items.spec items.represents load_factor) (table_format w items.spec items.format load_factor))
    (passing : WrittenTablesPass w items.spec items.format load_factor) where
  -- a list that was written as a table, with its header behind it, is valid in each archive that has their bytes
  pub tables_valid : (pairs : List (ℕ × X)) (begin end p : ℕ) (c : List ℕ) → HasListBytes (byte_len w) (table_format w items.spec items.format load_factor) pairs begin end p c
      → IsWrittenList (table_with w items c p) items.represents load_factor begin end pairs
  tables_valid pairs begin end p c l =
      let s : ElementSpec = items.spec in
      let whole : length l.header ≡ 3 * byte_len w = format.size_exact pairs l.resolver p l.header l.image in
      let up : begin + length l.part ≤ p = omega (arith, l.ends, l.behind) in
      let sound = format.sound pairs l.resolver c begin p l.part l.header l.parts l.image l.has_table l.has_header up l.aligned in
      let table_represents : TableRepresents w s items.represents load_factor c p pairs = sound.2 in
      let around = passing pairs l.resolver c begin p l.part l.header l.parts l.image l.has_table l.has_header up l.aligned in
      record {
        holds = record {
          behind = (omega (arith, l.ends), l.behind);
          inside = omega (arith, whole, l.has_header.inside);
          aligned = l.aligned;
          passes = subst (IsValidAround (table_spec w s) c p begin) (sym l.ends) around;
          items = items_visited w s items.represents visits c p pairs (were c p pairs table_represents) (λ none.
              let count = length-map pairs (λ (x : ℕ × X). x.0) in
              let n : length pairs ≡ 0 = omega (arith, ap length none, count) in
              subst (λ m. VisitsHomes m [] (table_controls w c p)) (sym (table_represents.cap ∙ rw n refl)) (none_visits (table_controls w c p)));
        };
        table_represents = table_represents;
      }

  -- a written list is valid in each archive that has its bytes
  pub lists_valid : ListsAreValid w items load_factor
  lists_valid pairs begin end p bytes c l sits =
      let part : List ℕ = l.part in
      let out : List ℕ = l.header in
      let z : List ℕ = zeros (padding (byte_len w) end) in
      let n : length z ≡ padding (byte_len w) end = length-replicate (padding (byte_len w) end) 0 in
      let whole : length out ≡ 3 * byte_len w = format.size_exact pairs l.resolver p out l.image in
      let sb : OccursAt c begin (part ++ (z ++ out)) = subst (OccursAt c begin) l.is sits in
      let sp : OccursAt c begin part = occurs_front c begin part (z ++ out) sb in
      let at : begin + length part + length z ≡ p = omega (arith, n, l.at, l.ends) in
      let so : OccursAt c p out = subst (λ q. OccursAt c q out) at (occurs_back c (begin + length part) z out (occurs_back c begin part (z ++ out) sb)) in
      let aligned : p % byte_len w ≡ 0 = subst (λ q. q % byte_len w ≡ 0) (sym l.at) (round_up-multiple end (byte_len w) (table_element w kind items.spec law).align_is) in
      let len : length bytes ≡ length part + (length z + length out) = ap length l.is ∙ length-append part (z ++ out) ∙ ap (λ k. length part + k) (length-append z out) in
      let has : HasListBytes (byte_len w) (table_format w items.spec items.format load_factor) pairs begin end p c = record {
        part = part;
        resolver = l.resolver;
        header = out;
        parts = l.parts;
        image = l.image;
        ends = l.ends;
        behind = omega (arith, l.at);
        aligned = aligned;
        has_table = sp;
        has_header = so;
      } in
      (tables_valid pairs begin end p c has, omega (arith, len, whole, at))

-- after a write of one item in place, the table holds the list with the new item
module _ {X R : Type 0} (w : Width) (items : Encoding X R) (visits : WalkVisitsHomes) (full : WalkedAreFull) (keep : (b : List ℕ) (p i : ℕ) → Viewable (table_spec w items.spec) b p → IsWalked w b p i → KeptByWrites w items.spec b p i)
    (written : ItemsWrittenRepresent w items.spec items.represents) (kind : IsArchiveWord w) (law : IsElement items.spec) where
  pub items_replaced : ItemsAreReplaced w items
  items_replaced b c p begin end n hash pairs old new list at_n sealed keeps one =
      let s : ElementSpec = items.spec in
      let homes : List ℕ = list.items.homes in
      let count = home_count w b p (hashes_of pairs) homes list.items.written in
      let less : n < length homes = omega (arith, slice_get_within pairs n (hash, old) at_n, count, length-map pairs (λ (x : ℕ × X). x.0)) in
      let q : ℕ = item_at w s.size b p (slice_index homes n) in
      let at = home_pos w s.size b p homes n less in
      let sealed_at : ModifiesOnly b q s.size c = subst (λ r. ModifiesOnly b r s.size c) at sealed in
      let keeps_at : StaysValid s b c q = subst (StaysValid s b c) at keeps in
      let one_at : items.represents c q new = subst (λ r. items.represents c r new) at one in
      let valid = list.passes 0 p (omega arith) list.behind.1 in
      let view : Viewable (table_spec w s) b p = record { inside = list.inside; aligned = list.aligned; valid = (valid.0, valid.1) } in
      let walked = (full (cap_at w b p) (slice_index homes n) (table_controls w b p)).0 ((list.items.visits.members (slice_index homes n)).1 (Contains-get_or homes n 0 less)) in
      let kept = keep b p (slice_index homes n) view walked c sealed_at keeps_at in
      let of : IsWrittenOf w s.size items.represents b p pairs = record { homes = homes; written = list.items.written; at = list.items.at } in
      let is = written b c p n hash pairs old new view of at_n sealed_at keeps_at one_at in
      let same = length-map (slice_set pairs n (hash, new)) (λ (x : ℕ × X). x.0) ∙ length-set pairs n (hash, new) ∙ sym (length-map pairs (λ (x : ℕ × X). x.0)) in
      record {
        behind = list.behind;
        inside = omega (arith, list.inside, sealed.same_length);
        aligned = list.aligned;
        passes = λ lo hi low high.
            let was = list.passes lo end low (omega arith) in
            let there = kept.is_valid lo end was.0 (omega (arith, low, list.behind.0)) list.behind.1 was.1 in
            (was.0, (table_element w kind s law).widen_hi c p lo end hi was.0 high there, was.2, was.3);
        items = items_visited w s items.represents visits c p (slice_set pairs n (hash, new)) is (λ none. absurd (omega (arith, less, count, same, ap length none)));
      }

-- the lookup of a report on a table that holds a list finds the first accepted item
module _ {T X R : Type 0} (w : Width) (items : Encoding X R) (post : View T → Bool → Type 0) (law : LookupFindsFirst w items.spec items.represents) where
  pub lookups_listed : LookupsFindListed w items post
  lookups_listed b p begin end hash pairs report list fits reports = λ accept accept_at compares agrees under.
      let of : IsWrittenOf w items.spec.size items.represents b p pairs = record { homes = list.items.homes; written = list.items.written; at = list.items.at } in
      let found = reports.looks.finds accept_at compares in
      let is = law generic_kind b p hash pairs accept accept_at word_lawful fits of under agrees in
      (subst (IsFirstOf items.represents b accept (items_of pairs)) (sym found) is.0, found ∙ is.1)

-- a written list that was looked up
module _ {T X R : Type 0} (list : ListInput X R) (post : View T → Bool → Type 0) (hash : ℕ) (o o' : Output) (fits : hash < 2 ^ 64) (law : LookupFindsFirst list.width.word list.items.spec list.items.represents) where
  pub written_found : (end p : ℕ) (wrote : WroteList list o o' end p) → IsWrittenList (table_of list o' p) list.items.represents list.load_factor (end_of o) end wrote.1
      → p + 3 * byte_len list.width.word ≡ end_of o + length wrote.2 → (b : List ℕ) → b ≡ o'.bytes → (report : TableReport)
      → ReportsTable (record { word = list.width.word; spec = list.items.spec; bytes = b; pos = p }) post hash report → ReportsList list post hash o o' report
  written_found end p wrote valid whole b same report reports =
      let t : TableIn = table_of list o' p in
      let there : ReportsTable t post hash report =
      subst (λ (c : List ℕ). ReportsTable (record { word = list.width.word; spec = list.items.spec; bytes = c; pos = p }) post hash report) same reports in
      record {
        fits = wrote.0;
        pairs = wrote.1;
        bytes = wrote.2;
        end = end;
        p = p;
        appends = wrote.3;
        ends = whole ∙ sym (end-appends o o' wrote.2 wrote.3.1.0);
        written = valid;
        first = lookups_listed list.width.word list.items post law o'.bytes p (end_of o) end hash wrote.1 report valid.holds fits there;
        reports = there;
      }

-- the bytes of a written list do not fail
pub written_never_fails : (w : Width) → IsArchiveWord w → (s : ElementSpec) → IsElement s → (c b : List ℕ) (p begin end : ℕ) → IsValidAround (table_spec w s) c p begin end → b ≡ c → (range : PartRange)
    → range.lo ≤ begin → end ≤ range.hi → (e : VerifyError) → Fails (table_spec w s) b p range e → ⊥
written_never_fails w kind s law c b p begin end around same range low high e fails =
    let there = subst (λ (x : List ℕ). (table_spec w s).fails x p range.lo range.hi e) same fails in
    let holds = around range.lo range.hi low high in
    (table_element w kind s law).exclusive c p range.lo range.hi holds.0 e holds.1 there

-- validation, walk and lookup of a list that was written as a table
module _ {T X R : Type 0} (w : Width) (items : Encoding X R) (load_factor : ℕ × ℕ) (post : View T → Bool → Type 0) (first : LookupFindsFirst w items.spec items.represents) (kind : IsArchiveWord w) (law : IsElement items.spec) where
  looked_over : (pairs : List (ℕ × X)) (begin end p : ℕ) (c : List ℕ) (written : IsWrittenList (table_with w items c p) items.represents load_factor begin end pairs)
      (range : PartRange) (hash : ℕ) (result : Result TableReport LookError) → range.lo ≤ begin → end ≤ range.hi → hash < 2 ^ 64
      → LooksOver (table_with w items c p) range post hash result → LooksOverList written post hash result
  looked_over pairs begin end p c written range hash (Ok report) low high fits over = (over.2, lookups_listed w items post first c p begin end hash pairs report written.holds fits over.2)
  looked_over pairs begin end p c written range hash (Err (Verify e)) low high fits over =
      absurd (written_never_fails w kind items.spec law c c p begin end written.holds.passes refl range low high e over)
  looked_over pairs begin end p c written range hash (Err Memory) low high fits over = (refl, omega (arith, written.table_represents.len, over.0))

  pub lists_found : ((pairs : List (ℕ × X)) (begin end p : ℕ) (c : List ℕ) → HasListBytes (byte_len w) (table_format w items.spec items.format load_factor) pairs begin end p c
      → IsWrittenList (table_with w items c p) items.represents load_factor begin end pairs) → ListsAreFound w items load_factor post
  lists_found valid pairs begin end p c has = let written = valid pairs begin end p c has in (written, looked_over pairs begin end p c written)

-- after a list is written, the one error is that an allocation fails
pub look_fails : {X R : Type 0} (list : ListInput X R) (o o' : Output) (t : TableIn) (end p : ℕ) (range : PartRange) → WroteList list o o' end p
    → ((e : VerifyError) → Fails (table_spec t.word t.spec) t.bytes t.pos range e → ⊥) → len_at t.word t.bytes t.pos ≡ list.len → (u : LookError) → LookOverFails t range u → WriteAndFindFails list o o' (Look u)
look_fails list o o' t end p range wrote passes count (Verify e) fails = absurd (passes e fails)
look_fails list o o' t end p range wrote passes count Memory accepts = (omega (arith, count, accepts.0), end, p, wrote)
