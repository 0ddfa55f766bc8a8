use Rattle.rkyv_base.proofs.SealedText.{uppercased_reads, uppercased_sealed, uppercased_text, uppercased_valid}
use Rattle.rkyv_base.proofs.seal_text.Seal+Text+W.make_ascii_uppercase.Goals as goal

pub returns-clause-sealed : goal.returns-clause-sealed
returns-clause-sealed g c = uppercased_sealed g.W.Word.word c.args.self.now.bytes.now c.args.self.now.pos c.requires _ _ c.uppercase_at.ensures

pub returns-clause-reads : goal.returns-clause-reads
returns-clause-reads g c = uppercased_reads g.W.Word.word c.args.self.now.bytes.now c.args.self.now.pos c.requires _ _ c.uppercase_at.ensures

pub returns-clause-text : goal.returns-clause-text
returns-clause-text g c = uppercased_text g.W.Word.word c.args.self.now.bytes.now c.args.self.now.pos c.requires _ _ c.uppercase_at.ensures

pub returns-clause-is_valid : goal.returns-clause-is_valid
returns-clause-is_valid g c = uppercased_valid g.W.Word.word c.args.self.now.bytes.now c.args.self.now.pos c.requires _ _ c.uppercase_at.ensures
