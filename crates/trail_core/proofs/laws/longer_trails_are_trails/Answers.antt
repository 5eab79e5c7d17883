use Rattle.std.proofs.Common.{◌+◌, Some, None, refl}
use Rattle.std.proofs.lemmas.List.Elements.{Contains-append_left}
use Rattle.trail_core.proofs.GeneralTrails.{IsCourse-push}
use Rattle.trail_core.proofs.laws.longer_trails_are_trails.Goals as goal

pub returns-clause-decided : goal.returns-clause-decided
returns-clause-decided c t l k there free =
    IsCourse-push t (record { lit = l; level = t.level + 1; reason = None }) k there free refl

pub returns-clause-implied : goal.returns-clause-implied
returns-clause-implied c t l id k there free =
    IsCourse-push t (record { lit = l; level = t.level; reason = Some id }) k there free refl

pub returns-clause-truth : goal.returns-clause-truth
returns-clause-truth c entries more l h = (h.0, Contains-append_left entries more h.0 h.1, h.2)

pub returns-clause-all_fail : goal.returns-clause-all_fail
returns-clause-all_fail c entries more clause h m has =
    let f = h m has in (f.0, Contains-append_left entries more f.0 f.1, f.2)

pub returns-clause-others_fail : goal.returns-clause-others_fail
returns-clause-others_fail c entries more clause l h m has ne =
    let f = h m has ne in (f.0, Contains-append_left entries more f.0 f.1, f.2)
