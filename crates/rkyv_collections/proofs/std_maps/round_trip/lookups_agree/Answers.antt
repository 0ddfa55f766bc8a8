use Rattle.std.proofs.Common.{ℕ, ◌-◌, subst, sym, length, List}
use Rattle.rkyv_base.specs.{IsValidArchive, bytes_of, pos_of}
use Rattle.rkyv_base.specs.Lemmas.Entry.{entry_element}
use Rattle.rkyv_base.proofs.AtViews.{back_at}
use Rattle.rkyv_keys.specs.{hash_of}
use Rattle.rkyv_table.specs.Lemmas.TableLaws.{table_element}
use Rattle.rkyv_collections.specs.{FindsFirstAccepted, map_spec}
use Rattle.rkyv_collections.proofs.WrittenRoots.{root_keeps}
use Rattle.rkyv_collections.proofs.StdFinding.{entries_looked_up}
use Rattle.rkyv_collections.proofs.std_maps.round_trip.lookups_agree.Goals as goal

pub returns-clause-same : goal.returns-clause-same
returns-clause-same g c =
    let key = c.args.key.now in
    let met = g.met.A in
    let w = g.W.Word.word in
    let s = map_spec w g.A.Archived.HasSpec.spec g.B.Archived.HasSpec.spec in
    let kl = g.A.Archived.HasSpec.laws in
    let vl = g.B.Archived.HasSpec.laws in
    let b : List ℕ = c.in_ok-bytes.bytes.items in
    let finds_at : List ℕ → ℕ → Type 0 = λ b p. FindsFirstAccepted w g.A.Archived.HasSpec.spec (hash_of g.H.KeyHasher.hasher g.A.KeyHash.calls) g.A.Query.fits g.B.Archived.HasSpec.spec g.B.Archived.MatchesNative.equals b p key (g.A.PartialEq.eq key) c.args.map.now.map.entries in
    let at = root_keeps g.W.Width.LIMIT s (table_element w g.met.W.Width.layout.kind _ (entry_element _ _ kl vl)) _ _
    (entries_looked_up g.H.KeyHasher.hasher g.met.H.KeyHasher.fits w g.met.W.Width.layout.kind g.W.Width.MAX_CAPACITY kl vl met.Query.query met.Query.query met.NativeKey.native met.Eq.laws.refl
    met.Archive.laws g.met.B.EqualsWritten.equal (λ x. x.map.entries))
    c.args.map.now b (length b - s.size) c.in_ok-bytes.ensures.2 in
    let found : finds_at b (length b - s.size) = at key (g.A.PartialEq.eq key) (λ a q valid there. met.NativeKey.native key a b q valid there) in
    let here = subst (λ (xs : List ℕ). finds_at xs (length xs - s.size)) (sym c.as_slice.ensures.value) found in
    let at_root = back_at c.in-Ok.root c.as_slice.result _ c.in-Ok.ensures.root.1 finds_at here in
    c.agrees_on.ensures.1 (subst (λ view. finds_at (bytes_of view) (pos_of view)) (sym c.of.ensures.view) at_root)

-- the written archive is accepted
pub returns-in_default-clause-same : goal.returns-in_default-clause-same
returns-in_default-clause-same g c =
    let s = map_spec g.W.Word.word g.A.Archived.HasSpec.spec g.B.Archived.HasSpec.spec in
    c.in_default.ensures.accepts (subst (IsValidArchive g.W.Width.LIMIT s) (sym c.as_slice.ensures.value) c.in_ok-bytes.ensures.0)
