-- Facts on the types of elements, as records that the types of collections carry.
use Rattle.rkyv_base.specs.Entries.{entry_spec}
use Rattle.rkyv_base.specs.Lemmas.Entry.{entry_element}
use Rattle.rkyv_base.specs.declared.element.HasSpec.{Ghosts as Specs}
use Rattle.rkyv_base.specs.declared.entry.Entry.{Entry}

-- the spec and the laws of entries
abbrev pub entry_specs : {K V : Type 0} → Specs K → Specs V → Specs (Entry K V)
entry_specs ks vs = record {
  spec = entry_spec ks.spec vs.spec;
  laws = entry_element ks.spec vs.spec ks.laws vs.laws;
}
