use Rattle.std.proofs.Common.{◌≡◌, ◌*◌, ◌%◌, ◌<◌, get_or, sym, ap, ◌∙◌, Some}
use Rattle.std.specs.List.{find}
use Rattle.std.proofs.lemmas.Bool.{le-leb}
use Rattle.rkyv_table.specs.{is_empty_at, probed, start}
use Rattle.rkyv_table.proofs.FirstFree.{empty_index_is, first_shown}
use Rattle.rkyv_table.proofs.controls.place.home.Goals as goal
use Rattle.rkyv_table.proofs.controls.place.home.Goals.{In-Some}

-- the first empty index belongs to the first probed bucket whose control byte is empty
found_here : (g : _) (c : In-Some g)
    → (c.in-Some.index < 2 * c.args.cap) × (find (is_empty_at c.args.controls.now) (probed c.args.hash c.args.cap) ≡ Some (c.in-Some.index % c.args.cap))
found_here g c =
    let controls = c.args.controls.now in
    let w = c.requires.room in
    let e = sym (rw c.requires.begun at c.in-Some.ensures ∙ empty_index_is controls (start c.args.hash c.args.cap)) in
    first_shown c.args.hash c.args.cap controls c.in-Some.index w.0 c.requires.wrapped w.1 (le-leb 128 (get_or controls w.0 0) w.2) e

pub bucket_of-requires : goal.bucket_of-requires
bucket_of-requires g c = record { below = (found_here g c).0 }

pub returns-in-Some : goal.returns-in-Some
returns-in-Some g c = (found_here g (goal.at.returns-in-Some g c).In-Some).1 ∙ ap Some (sym c.bucket_of.ensures)
