use Rattle.std.proofs.Common.{◌≡◌, ◌∙◌, ap, drop, sym}
use Rattle.rkyv_container.specs.declared.header.Header.{Header}
use Rattle.test_container.proofs.tests.round_trips.opens_as.Goals as goal

pub returns : goal.returns
returns c =
    let h = c.fill_header.result in
    let k : h.contents ≡ c.args.sealed =
    ap (λ (x : Header). x.contents) c.fill_header.ensures.header in
    let o = c.open_as.ensures.opens c.args.sealed (drop 32 c.args.bytes.now)
    (h, (k, c.fill_header.ensures.container)) in
    let e = c.is_ok.ensures.value in
    (λ t. o.0 (sym e ∙ t), λ s. e ∙ o.1 s)
