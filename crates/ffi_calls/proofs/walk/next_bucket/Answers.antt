use Rattle.std.proofs.Common.{◌≡◌, ℕ, ◌*◌, ◌+◌, ◌-◌, ◌<◌, ◌≤◌, ◌∙◌, List, [], ◌∷◌, ap, arith, length, slice_index, subst, sym}
use Rattle.rkyv_base.specs.{Viewable, entry_spec}
use Rattle.rkyv_base.specs.Lemmas.Access.{root_viewable}
use Rattle.rkyv_base.specs.Lemmas.Entry.{entry_element}
use Rattle.rkyv_table.specs.{IsWalked, cap_at, control_count, controls_pos, full_from, item_at, table_controls}
use Rattle.rkyv_table.proofs.ValidTable.{controls_inside, item_before, item_viewable}
use Rattle.rkyv_table.proofs.Walks.{full_end}
use Rattle.rkyv_collections.specs.{map_root, map_spec}
use Rattle.ffi_calls.proofs.walk.next_bucket.Goals as goal

pub returns-then-from-cap-clause-next : goal.returns-then-from-cap-clause-next
returns-then-from-cap-clause-next g c =
    let w = g.W.Word.word in
    let b = c.args.archive.now in
    let p = map_root w g.K.HasSpec.spec g.V.HasSpec.spec b in
    let cap : c.capacity-cap.result ≡ cap_at w b p = c.capacity-cap.ensures ∙ c.requires.header.cap in
    full_end (table_controls w b p) (cap_at w b p) c.args.from (omega arith)

pub controls_from-controls-requires : goal.controls_from-controls-requires
controls_from-controls-requires g c =
    let w = g.W.Word.word in
    let k = g.K.HasSpec.spec in
    let v = g.V.HasSpec.spec in
    let b = c.args.archive.now in
    let p = map_root w k v b in
    let cap : c.capacity-cap.result ≡ cap_at w b p = c.capacity-cap.ensures ∙ c.requires.header.cap in
    let some : 0 < cap_at w b p = omega arith in
    let decoded : 0 < c.args.header.now.cap = omega (arith, c.requires.header.cap) in
    let at : c.controls_pos-begin.result ≡ controls_pos w b p = c.controls_pos-begin.ensures ∙ c.requires.header.controls_pos decoded in
    let inside = controls_inside w (entry_spec k v) (entry_element k v g.K.HasSpec.laws g.V.HasSpec.laws) b p (root_viewable g.W.Width.LIMIT (map_spec w k v) b c.requires.archive) some in
    subst (λ n. n + control_count c.capacity-cap.result ≤ length b) (sym at) (subst (λ n. controls_pos w b p + control_count n ≤ length b) (sym cap) inside.0)

pub pos_before-requires : goal.pos_before-requires
pos_before-requires g c =
    let w = g.W.Word.word in
    let k = g.K.HasSpec.spec in
    let v = g.V.HasSpec.spec in
    let b = c.args.archive.now in
    let p = map_root w k v b in
    let i = c.in_ok-bucket.bucket in
    let cap : c.capacity-cap.result ≡ cap_at w b p = c.capacity-cap.ensures ∙ c.requires.header.cap in
    let below : i < cap_at w b p = omega (arith, c.in_ok-bucket.ensures.0) in
    let decoded : 0 < c.args.header.now.cap = omega (arith, c.requires.header.cap) in
    let at : c.controls_pos-begin.result ≡ controls_pos w b p = c.controls_pos-begin.ensures ∙ c.requires.header.controls_pos decoded in
    let law = entry_element k v g.K.HasSpec.laws g.V.HasSpec.laws in
    let before = item_before w (entry_spec k v) law b p (root_viewable g.W.Width.LIMIT (map_spec w k v) b c.requires.archive) i below in
    record {
      small = omega (arith, c.in_ok-bucket.ensures.0);
      room = rw (c.size-size.ensures, at) before;
    }

pub returns-clause-next : goal.returns-clause-next
returns-clause-next g c =
    let w = g.W.Word.word in
    let s = entry_spec g.K.HasSpec.spec g.V.HasSpec.spec in
    let b = c.args.archive.now in
    let p = map_root w g.K.HasSpec.spec g.V.HasSpec.spec b in
    let i = c.in_ok-bucket.bucket in
    let cap : c.capacity-cap.result ≡ cap_at w b p = c.capacity-cap.ensures ∙ c.requires.header.cap in
    let decoded : 0 < c.args.header.now.cap = omega (arith, c.requires.header.cap) in
    let at : c.controls_pos-begin.result ≡ controls_pos w b p = c.controls_pos-begin.ensures ∙ c.requires.header.controls_pos decoded in
    let controls : c.controls_from-controls.result.now ≡ table_controls w b p = rw (at, cap) at c.controls_from-controls.ensures.bytes in
    let taken : full_from (table_controls w b p) c.capacity-cap.result c.args.from ≡ i ∷ full_from (table_controls w b p) c.capacity-cap.result (i + 1) =
    subst (λ (xs : List ℕ). full_from xs c.capacity-cap.result c.args.from ≡ i ∷ full_from xs c.capacity-cap.result (i + 1)) controls c.in_ok-bucket.ensures.2 in (
      rw cap at taken,
      c.pos_before.ensures ∙ ap (λ n. c.controls_pos-begin.result - (i + 1) * n) c.size-size.ensures ∙ ap (λ n. n - (i + 1) * s.size) at,
    )

pub returns-clause-viewable : goal.returns-clause-viewable
returns-clause-viewable g c =
    let w = g.W.Word.word in
    let k = g.K.HasSpec.spec in
    let v = g.V.HasSpec.spec in
    let s = entry_spec k v in
    let b = c.args.archive.now in
    let p = map_root w k v b in
    let i = c.in_ok-bucket.bucket in
    let cap : c.capacity-cap.result ≡ cap_at w b p = c.capacity-cap.ensures ∙ c.requires.header.cap in
    let decoded : 0 < c.args.header.now.cap = omega (arith, c.requires.header.cap) in
    let at : c.controls_pos-begin.result ≡ controls_pos w b p = c.controls_pos-begin.ensures ∙ c.requires.header.controls_pos decoded in
    let law = entry_element k v g.K.HasSpec.laws g.V.HasSpec.laws in
    let controls : c.controls_from-controls.result.now ≡ table_controls w b p = rw (at, cap) at c.controls_from-controls.ensures.bytes in
    let walked : IsWalked w b p i = (subst (λ n. i < n) cap c.in_ok-bucket.ensures.0, subst (λ (xs : List ℕ). slice_index xs i < 128) controls c.in_ok-bucket.ensures.1) in
    let at_item : c.pos_before.result ≡ item_at w s.size b p i =
    c.pos_before.ensures ∙ ap (λ n. c.controls_pos-begin.result - (i + 1) * n) c.size-size.ensures ∙ ap (λ n. n - (i + 1) * s.size) at in
    subst (Viewable s b) (sym at_item) (item_viewable w s law b p (root_viewable g.W.Width.LIMIT (map_spec w k v) b c.requires.archive) i walked)

pub returns-in_err-bucket-clause-next : goal.returns-in_err-bucket-clause-next
returns-in_err-bucket-clause-next g c =
    let w = g.W.Word.word in
    let b = c.args.archive.now in
    let p = map_root w g.K.HasSpec.spec g.V.HasSpec.spec b in
    let cap : c.capacity-cap.result ≡ cap_at w b p = c.capacity-cap.ensures ∙ c.requires.header.cap in
    let decoded : 0 < c.args.header.now.cap = omega (arith, c.requires.header.cap) in
    let at : c.controls_pos-begin.result ≡ controls_pos w b p = c.controls_pos-begin.ensures ∙ c.requires.header.controls_pos decoded in
    let controls : c.controls_from-controls.result.now ≡ table_controls w b p = rw (at, cap) at c.controls_from-controls.ensures.bytes in
    let none : full_from (table_controls w b p) c.capacity-cap.result c.args.from ≡ [] =
    subst (λ (xs : List ℕ). full_from xs c.capacity-cap.result c.args.from ≡ []) controls c.in_err-bucket.ensures in
    rw c.from_residual.ensures (rw cap at none)
