-- The archived form of spots: the entry of their two coordinates.
use Rattle.std.specs.Prelude.{ℕ, ℤ, List}
use Rattle.std.specs.Int.{w32}
use Rattle.rkyv_base.specs.{ElementSpec, Format, PairRepresents, RepresentsAs, ScalarRepresents}
use Rattle.rkyv_base.specs.{entry_spec, pair_format, scalar_format, scalar_spec, signed, written_as}
use Rattle.rkyv_base.specs.declared.pairs.EntryResolver.{EntryResolver}
use Rattle.test_user_types.specs.declared.spot.Spot.{Spot}

-- the spec of a coordinate
abbrev pub int_spec : ElementSpec
int_spec = scalar_spec (signed w32)

-- the spec of a spot
abbrev pub spot_spec : ElementSpec
spot_spec = entry_spec int_spec int_spec

-- the coordinates of a spot, as a pair
abbrev pub as_pair : Spot → ℤ × ℤ
as_pair spot = (spot.x, spot.y)

-- the bytes at `p` represent the spot
abbrev pub SpotRepresents : List ℕ → ℕ → Spot → Type 0
SpotRepresents = RepresentsAs as_pair (PairRepresents int_spec int_spec
    (ScalarRepresents (signed w32)) (ScalarRepresents (signed w32)))

-- the format of a spot: that of the pair of its coordinates
abbrev pub spot_format : Format Spot (EntryResolver Unit Unit)
spot_format = written_as as_pair (pair_format int_spec int_spec (scalar_format (signed w32))
    (scalar_format (signed w32)))
