use Rattle.std.proofs.lemmas.Grind.{common_steps}
use Rattle.std.proofs.Common.{◌≡◌, ◌+◌, ◌<◌, ◌≤◌, ◌∙◌, ap, inr, length, subst, sym, List, ℕ, arith}
use Rattle.std.specs.Borrow.{Bor}
use Rattle.std.specs.Int.{byte_len}
use Rattle.std.specs.List.{All}
use Rattle.std.proofs.lemmas.List.Elements.{All-cons, All-head, All-rest}
use Rattle.rkyv_base.specs.{Viewable, number_at}
use Rattle.rkyv_table.specs.{AllValid, IsDecoded, ItemsLeft, cap_at, item_positions, len_at}
use Rattle.rkyv_table.proofs.Moved.{moved}
use Rattle.rkyv_index.specs.{AreBelow, FirstNotBelow, IndicesBelow}
use Rattle.rkyv_index.specs.Lemmas.IndexSpecs.{number_table_viewable}
use Rattle.rkyv_index.proofs.Checking.{buckets_below, decoded_before, decoded_begin, decoded_inside, moved_from_view, view_there}
use Rattle.rkyv_index.proofs.map.check.check_indices.Goals as goal

pub new-requires : goal.new-requires
new-requires g c = number_table_viewable g.W.Word.word g.W.Index.HasSpec.spec g.W.Index.Scalar.encoding g.met.W.Index.Scalar.laws g.met.W.IndexWidth.index c.args.bytes.now c.args.pos c.requires

pub of-table-requires : goal.of-table-requires
of-table-requires g c = grind (arith, common_steps, number_table_viewable g.W.Word.word g.W.Index.HasSpec.spec g.W.Index.Scalar.encoding g.met.W.Index.Scalar.laws g.met.W.IndexWidth.index c.args.bytes.now c.args.pos c.requires, view_there)

pub buckets_begin-requires : goal.buckets_begin-requires
buckets_begin-requires g c =
    let w = g.W.Word.word in
    let b = c.args.bytes.now in
    let header = c.header-header.result in
    let is = moved_from_view c.of-table.result.view c.new.result c.args.bytes c.args.pos c.of-table.ensures.view c.new.ensures (λ d r. IsDecoded w d r header) c.header-header.ensures in
    decoded_before w g.W.Word.kind b c.args.pos c.requires header is

pub all_below-requires : goal.all_below-requires
all_below-requires g c = grind (arith, moved_from_view, decoded_inside)

pub returns-then-all_below-clause-below : goal.returns-then-all_below-clause-below
returns-then-all_below-clause-below g c =
    let w = g.W.Word.word in
    let b = c.args.bytes.now in
    let header = c.header-header.result in
    let is = moved_from_view c.of-table.result.view c.new.result c.args.bytes c.args.pos c.of-table.ensures.view c.new.ensures (λ d r. IsDecoded w d r header) c.header-header.ensures in
    let len = moved_from_view c.of-table.result.view c.new.result c.args.bytes c.args.pos c.of-table.ensures.view c.new.ensures (λ d r. c.len-len.result ≡ len_at w d r) c.len-len.ensures in
    let begin = c.buckets_begin.result in
    let all : AreBelow w b begin (cap_at w b c.args.pos) (len_at w b c.args.pos) =
    moved (λ m n. AreBelow w b begin m n) c.capacity.result (cap_at w b c.args.pos) c.len-len.result (len_at w b c.args.pos) (c.capacity.ensures ∙ is.cap) len (c.all_below.ensures c.if-all_below.true) in
    buckets_below w g.W.Word.kind b c.args.pos (len_at w b c.args.pos) begin c.requires
    (decoded_begin w g.W.Word.kind b c.args.pos c.requires header is begin c.buckets_begin.ensures.none c.buckets_begin.ensures.some) all

pub read_count-index-requires : goal.read_count-index-requires
read_count-index-requires g c =
    let s = g.W.Index.HasSpec.spec in
    let before = c.loop-at.at-iterator in
    let after = c.next.new.self in
    let inv = c.loop-at.invariant in
    let e = c.in-Some.ensures.steps in
    let here : Viewable s before.archive.now c.in-Some.at =
    All-head (Viewable s before.archive.now) c.in-Some.at after.positions (subst (All (Viewable s before.archive.now)) e.takes inv.all_valid) in
    let size = g.met.W.Index.Scalar.laws.size ∙ ap byte_len g.met.W.IndexWidth.index.word in
    subst (λ n. c.in-Some.at + n ≤ length c.args.bytes.now) size
    (subst (λ (b : List ℕ). c.in-Some.at + s.size ≤ length b) inv.archive here.inside)

pub loop-at-preserved : goal.loop-at-preserved
loop-at-preserved g c =
    let w = g.W.Word.word in
    let s = g.W.Index.HasSpec.spec in
    let b : List ℕ = c.args.bytes.now in
    let n : ℕ = c.len-len.result in
    let at : ℕ = c.in-Some.at in
    let before = c.loop-at.at-iterator in
    let after = c.next.new.self in
    let inv = c.loop-at.invariant in
    let e = c.in-Some.ensures.steps in
    let less : number_at w b at < n = subst (λ x. x < n) c.read_count-index.ensures c.if-index-len.false in
    record {
      all_valid = All-rest (Viewable s after.archive.now) at after.positions before.positions e.takes
          (subst (λ (a : Bor (List ℕ)). All (Viewable s a.now) before.positions) (sym e.archive) inv.all_valid);
      archive = ap (λ (a : Bor (List ℕ)). a.now) e.archive ∙ inv.archive;
      len = inv.len;
      below = λ h. inv.below (subst (IndicesBelow w b n) (sym e.takes) (All-cons (λ q. number_at w b q < n) at after.positions less h));
      failed = λ x f. inv.failed x (subst (λ (qs : List ℕ). FirstNotBelow w b n qs x) (sym e.takes) (inr (less, f)));
    }

-- at first, all indices remain
pub loop-at-init : goal.loop-at-init
loop-at-init g c =
    let w = g.W.Word.word in
    let s = g.W.Index.HasSpec.spec in
    let b : List ℕ = c.args.bytes.now in
    let n : ℕ = c.len-len.result in
    let t = c.of-table.result in
    let raw = c.raw_iter-at-items.ensures in
    let into = c.into_iter-at-iterator.ensures.into_iter_gives in
    let archive : t.view.archive ≡ c.args.bytes = ap (λ v. v.archive) c.of-table.ensures.view ∙ c.new.ensures.0 in
    let pos : t.view.pos ≡ c.args.pos = ap (λ v. v.pos) c.of-table.ensures.view ∙ c.new.ensures.1 in
    let size : s.size ≡ byte_len w = g.met.W.Index.Scalar.laws.size ∙ ap byte_len g.met.W.IndexWidth.index.word in
    let indices : c.into_iter-at-iterator.result.positions ≡ item_positions w (byte_len w) b c.args.pos =
    ap (λ (l : ItemsLeft). l.positions) into ∙ raw.positions ∙ ap (λ k. item_positions w k t.view.archive.now t.view.pos) size
    ∙ ap (λ (a : Bor (List ℕ)). item_positions w (byte_len w) a.now t.view.pos) archive ∙ ap (item_positions w (byte_len w) b) pos in
    record {
      all_valid = subst (AllValid s) (sym into) raw.all_valid;
      archive = ap (λ (l : ItemsLeft). l.archive.now) into ∙ ap (λ (a : Bor (List ℕ)). a.now) (raw.archive ∙ archive);
      len = c.len-len.ensures ∙ ap (λ (a : Bor (List ℕ)). len_at w a.now t.view.pos) archive ∙ ap (len_at w b) pos;
      below = λ h. subst (IndicesBelow w b n) indices h;
      failed = λ x f. subst (λ (qs : List ℕ). FirstNotBelow w b n qs x) indices f;
    }

pub returns-then-index-len-clause-fails : goal.returns-then-index-len-clause-fails
returns-then-index-len-clause-fails g c = grind (arith, common_steps)

pub returns-clause-below : goal.returns-clause-below
returns-clause-below g c = grind (arith, common_steps)
