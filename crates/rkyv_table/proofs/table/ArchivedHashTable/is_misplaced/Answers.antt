use Rattle.std.proofs.Common.{refl, ap, not, ◌∙◌, ℕ}
use Rattle.rkyv_scan.specs.{generic_kind}
use Rattle.rkyv_table.specs.{bucket_found, count_after, is_found_at, item_pos, probe_length_at, table_bytes, table_pos}
use Rattle.rkyv_table.proofs.ValidTable.{read_accepted, read_end, read_found, read_walked}
use Rattle.rkyv_table.proofs.MisplacedIn.{hash_is, own_finds}
use Rattle.rkyv_table.proofs.PairedFound.{end_paired, found_paired}
use Rattle.rkyv_table.proofs.table.ArchivedHashTable.is_misplaced.Goals as goal

pub find_from-found-requires : goal.find_from-found-requires
find_from-found-requires g c κs =
    let read = c.controls.result.now in
    record {
      accepted = read_accepted g.T.HasSpec.laws c.args.self read c.controls.ensures;
      start = c.start.ensures;
      callable = λ b full. ((refl, tt), (c.requires.item.walked, (read_walked g.T.HasSpec.laws c.args.self read c.controls.ensures b full, c.requires.comparable)));
    }

pub returns-clause-exact : goal.returns-clause-exact
returns-clause-exact g c = λ hash_of same hash_as same_as.
    let t = c.args.self in
    let at : ℕ → ℕ = item_pos t in
    c.finds_another_or_none.ensures
    ∙ ap (λ o. not (is_found_at c.args.bucket o))
    (c.find_from-found.ensures.finds (λ i. same (at c.args.bucket) (at i)) (λ b r full. own_finds _ t c.args.bucket same same_as b r)
    ∙ found_paired c.controls.result.now t.header.cap t.header.len c.hash_of-hash.result (λ i. same (at c.args.bucket) (at i))
    ∙ read_found g.T.HasSpec.laws t _ c.controls.ensures generic_kind c.hash_of-hash.result (λ i. same (at c.args.bucket) (at i)))
    ∙ ap (λ h. not (is_found_at c.args.bucket (bucket_found generic_kind g.W.Word.word g.T.HasSpec.spec.size (table_bytes t) (table_pos t) h (same (at c.args.bucket)))))
    (hash_is t _ c.args.bucket c.hash_of-hash.result c.args.item c.requires.item c.hash_of-hash.ensures hash_of hash_as)

pub returns-clause-counts : goal.returns-clause-counts
returns-clause-counts g c =
    let t = c.args.self in
    let at : ℕ → ℕ = item_pos t in
    record {
      bounded = rw (t.decoded.len, t.decoded.cap) at c.find_from-found.ensures.bounded;
      counted = λ hash_of same hash_as same_as.
          c.find_from-found.ensures.counted (λ i. same (at c.args.bucket) (at i)) (λ b r full. own_finds _ t c.args.bucket same same_as b r)
          ∙ ap (λ n. count_after c.args.strides.now n)
          (end_paired c.controls.result.now t.header.cap t.header.len c.hash_of-hash.result (λ i. same (at c.args.bucket) (at i))
          ∙ read_end g.T.HasSpec.laws t _ c.controls.ensures generic_kind c.hash_of-hash.result (λ i. same (at c.args.bucket) (at i))
          ∙ ap (λ h. probe_length_at generic_kind g.W.Word.word g.T.HasSpec.spec.size (table_bytes t) (table_pos t) h (same (at c.args.bucket)))
          (hash_is t _ c.args.bucket c.hash_of-hash.result c.args.item c.requires.item c.hash_of-hash.ensures hash_of hash_as));
    }
