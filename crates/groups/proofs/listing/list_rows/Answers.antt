use Rattle.std.proofs.lemmas.Result.{err_from_is_err_and}
use Rattle.groups.specs.Rows.{held}
use Rattle.groups.specs.Told.{Told}
use Rattle.groups.proofs.Finish.{told_many, told_written, there_is_one, only_told}
use Rattle.groups.proofs.listing.list_rows.Goals as goal

pub returns-in_err-found : goal.returns-in_err-found
returns-in_err-found c =
    let rows = c.args.rows in
    let marks = c.args.marks in
    let list = c.args.list.now in
    let (fault, many) = c.in_err-found.ensures in
    let p = err_from_is_err_and c.from_residual.result c.from_residual.ensures.1 in
    let told : Told (held rows.bits) marks.first marks.second list list c.from_residual.result = rw (p.1, p.2, fault) (told_many rows marks list many) in
    record { told = told; only = only_told (held rows.bits) marks.first marks.second list list c.from_residual.result told; one = there_is_one (held rows.bits) rows.lawful marks.first marks.second }

pub returns : goal.returns
returns c =
    let rows = c.args.rows in
    let marks = c.args.marks in
    let list = c.args.list.now in
    let found = c.in_ok-found.found.items in
    let new = c.write_out.new.list in
    let answer = c.write_out.result in
    let told : Told (held rows.bits) marks.first marks.second list new answer
    = told_written rows marks list found c.in_ok-found.ensures new answer (rw c.deref.ensures.0 at c.write_out.ensures) in
    record { told = told; only = only_told (held rows.bits) marks.first marks.second list new answer told; one = there_is_one (held rows.bits) rows.lawful marks.first marks.second }
