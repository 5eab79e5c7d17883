-- From what comes of keeping and writing what is said to how a run ends.
use Rattle.std.proofs.Common.{◌≡◌, ◌<◌, ◌≤◌, ◌⊎◌, inl, inr, ℕ, ◌∙◌, List, Option, Some, subst, ap, arith}
use Rattle.fer_outside.specs.Held.{Held}
use Rattle.fer_outside.specs.Causes.{Grew}
use Rattle.report.specs.Answers.{answer_text}
use Rattle.ferrite_run.specs.declared.saying.Said.{Said}
use Rattle.ferrite_run.specs.Done.{Done, held_after}
use Rattle.ferrite_run.specs.Saying.{Says, kept_in}
use Rattle.ferrite_run.specs.Delivering.{IsWhole, IsProperFront, IsUnkept, IsCutShort}
use Rattle.ferrite_run.specs.Delivering.IsCutShort.{unwritten as cut_unwritten, unkept as cut_unkept}
use Rattle.ferrite_run.specs.Delivered.{IsDelivered}
use Rattle.ferrite_run.specs.Delivered.IsDelivered.{whole, unwritten, unkept, wanting}
use Rattle.ferrite_run.proofs.Ready.{status_below}

module _
    (told after : Option Held) (rose : List ℕ → Type 0) (before now : Option (List ℕ)) (write_fault untouched : Type 0) (said : Said) (done : Done) (says : Says said done)
  where
    held : after ≡ held_after told (kept_in said.kept) → after ≡ held_after told done.kept
    held e = e ∙ ap (held_after told) says.keeps

    grew : Grew before now said.text.items → Grew before now (answer_text done.answer)
    grew h = subst (Grew before now) says.written h

    unkept_one : IsUnkept told after rose (kept_in said.kept) → IsUnkept told after rose done.kept
    unkept_one un = subst (IsUnkept told after rose) says.keeps un

    pub delivered_whole : (status : ℕ) → IsDelivered told after rose before now write_fault untouched said status → status < 8 → IsWhole told after before now done status
    delivered_whole status (whole e h k) below = record { stated = e ∙ says.stated; written = grew h; kept = held k }
    delivered_whole status (unwritten e front proper h fault k) below = absurd (omega (arith, e, below))
    delivered_whole status (unkept e un same) below = absurd (omega (arith, e, below))
    delivered_whole status (wanting e k same) below = absurd (omega (arith, e, below))

    pub delivered_cut : (status : ℕ) → IsDelivered told after rose before now write_fault untouched said status → status ≡ 8 → IsCutShort told after rose before now write_fault done
    delivered_cut status (whole e h k) at = absurd (omega (arith, e, at, says.stated, status_below done.answer))
    delivered_cut status (unwritten e front proper h fault k) at = cut_unwritten front (subst (IsProperFront front) says.written proper) h fault (held k)
    delivered_cut status (unkept e un same) at = cut_unkept (unkept_one un) same
    delivered_cut status (wanting e k same) at = absurd (omega (arith, e, at))

    pub delivered_wanting : (status : ℕ) → IsDelivered told after rose before now write_fault untouched said status → status ≡ 9 → (after ≡ told) × untouched
    delivered_wanting status (whole e h k) at = absurd (omega (arith, e, at, says.stated, status_below done.answer))
    delivered_wanting status (unwritten e front proper h fault k) at = absurd (omega (arith, e, at))
    delivered_wanting status (unkept e un same) at = absurd (omega (arith, e, at))
    delivered_wanting status (wanting e k same) at = (k, same)

    pub delivered_known : (status : ℕ) → IsDelivered told after rose before now write_fault untouched said status → status ≤ 9
    delivered_known status (whole e h k) = omega (arith, e, says.stated, status_below done.answer)
    delivered_known status (unwritten e front proper h fault k) = omega (arith, e)
    delivered_known status (unkept e un same) = omega (arith, e)
    delivered_known status (wanting e k same) = omega (arith, e)

    -- where no write failed, and no count rose for a name under which something is to be kept
    pub delivered_calm :
        (status : ℕ) → (write_fault → ⊥) → ((name bytes : List ℕ) → done.kept ≡ Some (name, bytes) → rose name → ⊥)
        → IsDelivered told after rose before now write_fault untouched said status → (status ≡ 9) ⊎ IsWhole told after before now done status
    delivered_calm status written kept (whole e h k) = inr (record { stated = e ∙ says.stated; written = grew h; kept = held k })
    delivered_calm status written kept (unwritten e front proper h fault k) = absurd (written fault)
    delivered_calm status written kept (unkept e un same) = let mine = unkept_one un in absurd (kept mine.name mine.bytes mine.wanted mine.cause)
    delivered_calm status written kept (wanting e k same) = inl e

-- more counts may have risen
pub same_faults :
    (told after : Option Held) (rose more : List ℕ → Type 0) (before now : Option (List ℕ)) (write_fault untouched : Type 0) (said : Said) (status : ℕ) → ((name : List ℕ) → rose name → more name)
    → IsDelivered told after rose before now write_fault untouched said status → IsDelivered told after more before now write_fault untouched said status
same_faults told after rose more before now write_fault untouched said status from (whole e h k) = whole e h k
same_faults told after rose more before now write_fault untouched said status from (unwritten e front proper h fault k) = unwritten e front proper h fault k
same_faults told after rose more before now write_fault untouched said status from (unkept e un same) =
    unkept e (record { name = un.name; bytes = un.bytes; wanted = un.wanted; cause = from un.name un.cause; others = un.others }) same
same_faults told after rose more before now write_fault untouched said status from (wanting e k same) = wanting e k same
