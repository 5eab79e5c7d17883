-- Private: laws of the oracle that knows which sets of sites are bad.
use Rattle.std.specs.Prelude.{◌≡◌, ◌↔◌, ℕ, ◌≤◌, Bool, true, List, [], ◌∷◌, length}
use Rattle.std.proofs.Common.{refl, ◌∙◌, ap, subst, sym}
use Rattle.std.proofs.Math.Nat.{le_refl, le_trans}
use Rattle.fer_events.specs.declared.event.Crash.{Crash}
use Rattle.sync_parts.specs.Sites.{IsPartOf}
use Rattle.sync_parts.proofs.Reached.{part-reach}
use Rattle.sync_shrink.specs.Sets.{IsPart}
use Rattle.sync_repair.specs.Sets.{IsBad}
use Rattle.sync_repair.specs.Settings.{Setting, IsShown, Stays}

-- the set is bad in the setting
abbrev pub IsBadIn : Setting → List Bool → Type 0
IsBadIn s set = IsBad s.litmus s.model s.sites set

-- a part of a set has some of its sites
pub part_of : (few many : List Bool) → IsPart few many → IsPartOf few many
part_of [] [] part = part
part_of [] (m ∷ many) part = absurd part
part_of (f ∷ few) [] part = absurd part
part_of (f ∷ few) (m ∷ many) part = (part.0, part_of few many part.1)

pub part_bad : (s : Setting) (few many : List Bool) → IsPart few many → IsBadIn s many → IsBadIn s few
part_bad s few many part bad = record {
  syncs = bad.syncs;
  outside = bad.outside;
  reached = part-reach s.litmus s.model s.sites many few bad.syncs bad.outside (part_of few many part) bad.reached;
}

pub shown_bad : (s : Setting) (set : List Bool) (crash : Crash) → IsShown s set crash → IsBadIn s set
shown_bad s set crash shown = record { syncs = shown.syncs; outside = shown.outside; reached = (crash, shown.reached) }

pub same_stays : (s : Setting) (limit count : ℕ) → Stays s s limit limit count count
same_stays s limit count = record { setting = refl; limited = refl; rises = le_refl count; endless = λ e. refl }

pub stays_on : (s t u : Setting) (limit later last count more most : ℕ) → Stays s t limit later count more → Stays t u later last more most → Stays s u limit last count most
stays_on s t u limit later last count more most a b = record {
  setting = a.setting ∙ b.setting;
  limited = a.limited ∙ b.limited;
  rises = le_trans a.rises b.rises;
  endless = λ e. a.endless e ∙ b.endless (sym a.limited ∙ e);
}

pub things_alike : (s t : Setting) → s ≡ t → length s.sites ≡ length t.sites
things_alike s t same = ap (λ (u : Setting). length u.sites) same

pub bad_alike : (s t : Setting) (set : List Bool) → s ≡ t → IsBadIn s set ↔ IsBadIn t set
bad_alike s t set same = (subst (λ (u : Setting). IsBadIn u set) same, subst (λ (u : Setting). IsBadIn u set) (sym same))

pub shown_alike : (s t : Setting) (set : List Bool) (crash : Crash) → s ≡ t → IsShown s set crash ↔ IsShown t set crash
shown_alike s t set crash same = (subst (λ (u : Setting). IsShown u set crash) same, subst (λ (u : Setting). IsShown u set crash) (sym same))
