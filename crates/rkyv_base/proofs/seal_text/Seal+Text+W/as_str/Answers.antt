use Rattle.std.proofs.Common.{◌≡◌, ℕ, IsUtf8, List, Result, subst, sym, arith}
use Rattle.std.proofs.lemmas.Grind.{common_steps}
use Rattle.std.specs.Borrow.{Bor}
use Rattle.std.specs.Int.{Width}
use Rattle.std.specs.Prelude.{MatchOption, MatchResult}
use Rattle.std.specs.Result.{result_ok}
use Rattle.rkyv_base.specs.{IsInline, LacksInlineText, ReadsInline, inline_at}
use Rattle.rkyv_base.specs.Lemmas.Text.{inline_reads}
use Rattle.rkyv_base.proofs.seal_text.Seal+Text+W.as_str.Goals as goal

-- the inline text, if it is UTF-8
read : {E : Type 0} (Q : E → Type 0) (w : Width) (b : List ℕ) (p : ℕ) (part : List ℕ) (r : Result (Bor (List ℕ)) E) → IsInline w b p → part ≡ inline_at w b p
    → MatchResult r (λ text. (text.now ≡ part) × IsUtf8 part) (λ e. ¬ (IsUtf8 part) × Q e) → MatchOption (result_ok r) (LacksInlineText w b p) (λ text. ReadsInline w b p text.now)
read Q w b p part result inline is h = grind (arith, common_steps, inline_reads)

pub returns : goal.returns
returns g c =
    let h = c.in_ok-text.ensures in
    let none_or = read _ g.W.Word.word c.args.self.now.bytes.now c.args.self.now.pos _ c.from_utf8.result h.0 h.1 c.from_utf8.ensures.cases in
    subst (λ o. MatchOption o (LacksInlineText g.W.Word.word c.args.self.now.bytes.now c.args.self.now.pos) (λ text. ReadsInline g.W.Word.word c.args.self.now.bytes.now c.args.self.now.pos text.now)) (sym c.ok.ensures.value) none_or
