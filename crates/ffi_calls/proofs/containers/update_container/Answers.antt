use Rattle.std.proofs.Common.{◌∙◌, ap, drop, inl, inr, refl, subst, sym}
use Rattle.std.proofs.lemmas.List.{length-drop}
use Rattle.rkyv_container.specs.{IsContainer, header_of}
use Rattle.rkyv_container.proofs.HeaderBytes.{header_length}
use Rattle.ffi_calls.proofs.containers.update_container.Goals as goal

pub returns-in-Err : goal.returns-in-Err
returns-in-Err c = inr (inl (c.in-Err.error, (c.in-Err.ensures.err c.in-Err.error).0 refl, c.container_status.ensures, refl))

pub overflow_sub-bytes : goal.overflow_sub-bytes
overflow_sub-bytes c = header_length c.in-Ok.header c.args.bytes.now ((c.in-Ok.ensures.ok c.in-Ok.header).0 refl)

pub returns-then-header-bytes : goal.returns-then-header-bytes
returns-then-header-bytes c = inr (inr (c.in-Ok.header, (c.in-Ok.ensures.ok c.in-Ok.header).0 refl, (λ e. c.if-header-bytes.true (e ∙ length-drop 32 c.args.bytes.now)), refl, refl))

pub fill_header-requires : goal.fill_header-requires
fill_header-requires c = header_length c.in-Ok.header c.args.bytes.now ((c.in-Ok.ensures.ok c.in-Ok.header).0 refl)

pub returns : goal.returns
returns c =
    let b = c.args.bytes.now in
    let h = c.in-Ok.header in
    inl (h, (c.in-Ok.ensures.ok h).0 refl, c.if-header-bytes.false ∙ sym (length-drop 32 b), refl, subst (λ x. IsContainer x (drop 32 b) c.fill_header.new.bytes) (c.fill_header.ensures.header ∙ ap (header_of h.contents (drop 32 b)) c.is_some.ensures) c.fill_header.ensures.container)
