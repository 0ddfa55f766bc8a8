use Rattle.std.proofs.Common.{subst, ◌≡◌, ◌++◌, ℕ, Bool, List, Option, IfSome, OnOk, string_bytes}
use Rattle.std.specs.List.{find}
use Rattle.std.proofs.lemmas.Option.{IfSome_then}
use Rattle.rkyv_scan.specs.{generic_kind}
use Rattle.rkyv_base.specs.{entry_spec, value_offset}
use Rattle.rkyv_base.proofs.AtViews.{back_at}
use Rattle.rkyv_table.specs.{home_positions, pos_found}
use Rattle.rkyv_collections.specs.{MapWrittenAt, map_archive}
use Rattle.rkyv_dict.specs.{HasHomes, first_under, hash, value_line, value_under}
use Rattle.rkyv_dict.proofs.Roots.{text_read}
use Rattle.rkyv_dict.proofs.archives.push_found.Goals as goal

pub returns-clause-found : goal.returns-clause-found
unfolding value_under
returns-clause-found g c =
    let s = g.P.HasSpec.spec in
    let m = c.map_of.result in
    let fits : List ℕ → ℕ → Bool = g.Q.Query.fits c.args.key.now in
    let key_pos : List ℕ → ℕ → Option ℕ = λ b p. pos_found generic_kind g.W.Word.word (entry_spec s s).size b p (hash (g.Q.KeyHash.calls c.args.key.now)) (fits b) in
    let same : IfSome c.get.result (λ v. v.archive ≡ map_archive m) = IfSome_then c.get.result c.get.ensures.walked (λ v is. is.at.0) in
    let text = text_read g.P.Printable.text (value_offset s s) m.view _ _ c.map_of.ensures.at c.get.result same key_pos c.get.ensures.finds in
    subst (λ t. OnOk c.push_text.result (string_bytes c.push_text.new.out ≡ string_bytes c.args.out.now ++ value_line t)) text c.push_text.ensures

pub returns-clause-first : goal.returns-clause-first
unfolding HasHomes first_under
returns-clause-first g c homes written =
    let s = g.P.HasSpec.spec in
    let w = g.W.Word.word in
    let m = c.map_of.result in
    let fits : List ℕ → ℕ → Bool = g.Q.Query.fits c.args.key.now in
    let key_pos : List ℕ → ℕ → Option ℕ = λ b p. find (fits b) (home_positions w (entry_spec s s).size b p homes) in
    let same : IfSome c.get.result (λ v. v.archive ≡ map_archive m) = IfSome_then c.get.result c.get.ensures.walked (λ v is. is.at.0) in
    let here = back_at m.view _ _ c.map_of.ensures.at (λ b p. MapWrittenAt w (entry_spec s s) (λ c q. hash (g.P.KeyElement.key_calls c q)) b p homes) written in
    let text = text_read g.P.Printable.text (value_offset s s) m.view _ _ c.map_of.ensures.at c.get.result same key_pos (c.get.ensures.first homes here) in
    subst (λ t. OnOk c.push_text.result (string_bytes c.push_text.new.out ≡ string_bytes c.args.out.now ++ value_line t)) text c.push_text.ensures
