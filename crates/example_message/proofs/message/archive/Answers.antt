use Rattle.std.proofs.Common.{ℕ, MatchResult, subst}
use Rattle.rkyv_base.specs.{ArchiveOf, ToBytesFails}
use Rattle.example_message.specs.{IsMessage, IsMessageOf, MessageFails, Parts, PartsRepresent, Represents, header_spec, parts_format}
use Rattle.rkyv_collections.proofs.FoundValues.{on_ok}
use Rattle.example_message.proofs.message.archive.Goals as goal

pub returns-clause-whole : goal.returns-clause-whole
unfolding IsMessageOf MessageFails
returns-clause-whole c =
    let WriteResult : ℕ × ℕ → Parts → Type 0 = λ factor parts. MatchResult c.to_bytes.result (λ message. ArchiveOf 4_294_967_295 header_spec (PartsRepresent factor) (parts_format factor) parts message.items)
    (ToBytesFails 4_294_967_295 header_spec (parts_format factor) parts) in
    let list = c.new-list in
    subst (λ factor. WriteResult factor c.args.parts.now) list.ensures.load_factor (subst (λ parts. WriteResult list.result.load_factor parts) list.ensures.pairs c.to_bytes.ensures)

pub returns-clause-represents : goal.returns-clause-represents
unfolding IsMessage IsMessageOf Represents
returns-clause-represents c = on_ok (λ message. IsMessageOf c.args.parts.now message.items) (λ message. IsMessage message.items × Represents message.items c.args.parts.now) (MessageFails c.args.parts.now) c.to_bytes.result (λ message h. (h.0, h.1)) (returns-clause-whole c)
