use Rattle.std.proofs.Common.{◌≡◌, Err, Ok, length, rules, subst}
use Rattle.std.proofs.lemmas.Result.{err_from_is_err_and}
use Rattle.grid.specs.Voxels.{count_of}
use Rattle.scan.specs.Making.{SidesAre}
use Rattle.drawing.specs.Opening.{GivesPair}
use Rattle.exported.specs.Askings.{asked_of, sides_of}
use Rattle.exported.proofs.Askings.{makes_block, not_asked, pair_refused}
use Rattle.exported.proofs.asking.Asking.check.Goals as goal

pub returns-in_err-pair : goal.returns-in_err-pair
returns-in_err-pair c =
    let a = c.args.self.now in
    let s = c.in_ok-sides.sides in
    let exit = err_from_is_err_and c.from_residual-in_err-pair.result c.from_residual-in_err-pair.ensures.1 in
    let are : SidesAre s (sides_of a) = subst (SidesAre s) c.sides.ensures c.in_ok-sides.ensures in
    let whole : length c.args.readings.now ≡ count_of s = search rules in
    let given : GivesPair s (asked_of a) (Err c.in_err-pair.field-0.0) = subst (λ asked. GivesPair s asked (Err c.in_err-pair.field-0.0)) c.opening.ensures c.in_err-pair.ensures in
    rw (exit.1, exit.2) (pair_refused a c.args.readings.now s c.in_err-pair.field-0.0 are whole given, not_asked a c.args.readings.now s c.in_err-pair.field-0.0 are given)

pub returns : goal.returns
returns c =
    let a = c.args.self.now in
    let s = c.in_ok-sides.sides in
    let are : SidesAre s (sides_of a) = subst (SidesAre s) c.sides.ensures c.in_ok-sides.ensures in
    let whole : length c.args.readings.now ≡ count_of s = search rules in
    let given : GivesPair s (asked_of a) (Ok c.in_ok-pair.field-0) = subst (λ asked. GivesPair s asked (Ok c.in_ok-pair.field-0)) c.opening.ensures c.in_ok-pair.ensures in
    record { block = makes_block s a c.args.readings.now are whole; sides = s; are = are; pair = c.in_ok-pair.field-0; given = given }
