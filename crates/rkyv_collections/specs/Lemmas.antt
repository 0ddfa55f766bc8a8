-- Lemmas that the laws of traits and implementations need. A law only imports from specs/.
pub mod MapLaws
pub mod MapSound
pub mod SetSound
pub mod DistinctEntries
pub mod PairHomes
pub mod StdLists
pub mod StdMapLaws
pub mod StdMapSound
pub mod StdEqualLaws
pub mod StdOnce
pub mod StdSet
pub mod StoredKeys
pub mod MapElement
