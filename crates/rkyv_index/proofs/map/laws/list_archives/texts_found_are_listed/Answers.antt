use Rattle.rkyv_keys.specs.{found_texts, hash_at, native_keys}
use Rattle.rkyv_keys.specs.Lemmas.FirstPairs.{text_by_view}
use Rattle.rkyv_index.proofs.ListArchives.{found_listed}
use Rattle.rkyv_index.proofs.map.laws.list_archives.texts_found_are_listed.Goals as goal

pub returns : goal.returns
returns g c =
    let keys = native_keys g.K.Represents.represents (hash_at g.H.KeyHasher.hasher g.K.KeyElement.key_calls) g.Q.Query.fits g.Q.NativeQuery.equals in
    found_listed _ _ g.met.W.Width.layout.kind _ _ keys g.met.Q.NativeQuery.finds (found_texts g.W.Word.word) (text_by_view g.W.Word.word)
