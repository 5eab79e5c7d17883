-- General: the examples, computed.
use Rattle.std.proofs.Common.{◌≡◌, ℕ, ◌+◌, ◌≤◌, Bool, false, leb, ltb, ◌&&◌, ◌||◌, List, [], ◌∷◌, length, codes, Some, refl, ◌∙◌, ap, arith, ◌++◌}
use Rattle.std.specs.List.{flat_map, list_any}
use Rattle.std.proofs.lemmas.Bool.Decides.{nat_tests}
use Rattle.fer_events.specs.States.{after_numbers, start_state}
use Rattle.value_coding.specs.declared.cell.Cell.TheVariants.{SlotOf, SizeOf, Segment}
use Rattle.value_coding.specs.Cells.{Sized, cell_value}
use Rattle.value_coding.specs.Runs.{runs}
use Rattle.value_coding.specs.declared.reading.Part.{Part}
use Rattle.value_coding.specs.declared.reading.Part.TheVariants.{Name, Size, Places}
use Rattle.value_coding.specs.Segments.{has_place, part_edges, event_edges, is_read, edges, cut_places, segments, file_places}
use Rattle.value_coding.specs.Readings.{parts, readings}
use Rattle.value_coding.specs.QuestionCells.{cells}
use Rattle.value_coding.specs.LastWriter.{last_writer}
use Rattle.value_coding.specs.Writers.{value_by}
use Rattle.order_coding.specs.Families.{order_clauses}
use Rattle.value_coding.specs.LastClauses.{value_formula}
use Rattle.value_coding.specs.Examples.{one_write, two_writes, two_extends, content_is, replaced}
use Rattle.value_coding.proofs.GeneralReadings.{readings-ContentIs}
use Rattle.value_coding.proofs.GeneralRuns.{runs-end}
use Rattle.value_coding.proofs.GeneralSegments.{places-are}

behind-four : (place : ℕ) → 4 ≤ place → (leb 0 place && ltb place (0 + 4) || false) ≡ false
behind-four place h = grind (arith, nat_tests)

pub extends-last : last_writer two_extends.events (SizeOf 0) (2 ∷ 1 ∷ []) ≡ Some 1
extends-last = refl

pub extends-size : value_by two_extends (SizeOf 0) (Some 1) ≡ Sized 3
extends-size = refl

pub one-reads : readings one_write (content_is (codes "aaaa")) ≡ (0, Name) ∷ (0, Size) ∷ (0, Places 0 4) ∷ []
one-reads = readings-ContentIs one_write (codes "f" ∷ []) (codes "aaaa")

pub two-reads : readings two_writes (content_is (codes "abaa")) ≡ (0, Name) ∷ (0, Size) ∷ (0, Places 0 4) ∷ []
two-reads = readings-ContentIs two_writes (codes "f" ∷ []) (codes "abaa")

-- what is read of `/f`, and the segments that come of it
one-parts : parts one_write (content_is (codes "aaaa")) 0 ≡ Name ∷ Size ∷ Places 0 4 ∷ []
one-parts = rw one-reads refl

two-parts : parts two_writes (content_is (codes "abaa")) 0 ≡ Name ∷ Size ∷ Places 0 4 ∷ []
two-parts = rw two-reads refl

abbrev has_part : List Part → ℕ → Bool
has_part ps place = list_any (has_place place) ps

places-many : 4 ≤ file_places
places-many = omega (arith, places-are)

pub one-segments : segments one_write (content_is (codes "aaaa")) 0 ≡ (0, 4) ∷ []
unfolding segments cut_places
one-segments =
    runs-end (is_read one_write (content_is (codes "aaaa")) 0) (edges one_write (content_is (codes "aaaa")) 0) 4 file_places places-many
    (λ place h m. ap (λ (ps : List Part). has_part ps place) one-parts ∙ behind-four place h)
    ∙ ap (λ (ps : List Part). runs (has_part ps) (flat_map (event_edges 0) one_write.events ++ flat_map part_edges ps) 4) one-parts

pub two-segments : segments two_writes (content_is (codes "abaa")) 0 ≡ (0, 1) ∷ (1, 1) ∷ (2, 2) ∷ []
unfolding segments cut_places
two-segments =
    runs-end (is_read two_writes (content_is (codes "abaa")) 0) (edges two_writes (content_is (codes "abaa")) 0) 4 file_places places-many
    (λ place h m. ap (λ (ps : List Part). has_part ps place) two-parts ∙ behind-four place h)
    ∙ ap (λ (ps : List Part). runs (has_part ps) (flat_map (event_edges 0) two_writes.events ++ flat_map part_edges ps) 4) two-parts

pub one-cells : cells one_write (content_is (codes "aaaa")) ≡ SlotOf 0 ∷ SizeOf 0 ∷ Segment 0 0 4 ∷ []
one-cells = rw (one-reads, one-segments) refl

pub one-formula :
    ((value_formula one_write.events [] (SlotOf 0 ∷ SizeOf 0 ∷ Segment 0 0 4 ∷ [])).vars ≡ 5)
    × (length (value_formula one_write.events [] (SlotOf 0 ∷ SizeOf 0 ∷ Segment 0 0 4 ∷ [])).clauses ≡ 5)
unfolding order_clauses
one-formula = (refl, refl)

pub replaced-formula :
    ((value_formula replaced.events ((1, 3) ∷ (1, 4) ∷ (3, 4) ∷ []) (SlotOf 0 ∷ SizeOf 0 ∷ SizeOf 1 ∷ [])).vars ≡ 15)
    × (length (value_formula replaced.events ((1, 3) ∷ (1, 4) ∷ (3, 4) ∷ []) (SlotOf 0 ∷ SizeOf 0 ∷ SizeOf 1 ∷ [])).clauses ≡ 32)
unfolding order_clauses
replaced-formula = (refl, refl)

replaced-reads : readings replaced (content_is (codes "")) ≡ (0, Name) ∷ (0, Size) ∷ (0, Places 0 0) ∷ []
replaced-reads = readings-ContentIs replaced (codes "f" ∷ []) (codes "")

replaced-parts : parts replaced (content_is (codes "")) 0 ≡ Name ∷ Size ∷ Places 0 0 ∷ []
replaced-parts = rw replaced-reads refl

replaced-parts-new : parts replaced (content_is (codes "")) 1 ≡ Name ∷ Size ∷ Places 0 0 ∷ []
replaced-parts-new = rw replaced-reads refl

behind-none : (place : ℕ) → 0 ≤ place → (leb 0 place && ltb place (0 + 0) || false) ≡ false
behind-none place h = grind (arith, nat_tests)

replaced-old : segments replaced (content_is (codes "")) 0 ≡ []
unfolding segments cut_places
replaced-old =
    runs-end (is_read replaced (content_is (codes "")) 0) (edges replaced (content_is (codes "")) 0) 0 file_places (omega arith)
    (λ place h m. ap (λ (ps : List Part). has_part ps place) replaced-parts ∙ behind-none place h)

replaced-new : segments replaced (content_is (codes "")) 1 ≡ []
unfolding segments cut_places
replaced-new =
    runs-end (is_read replaced (content_is (codes "")) 1) (edges replaced (content_is (codes "")) 1) 0 file_places (omega arith)
    (λ place h m. ap (λ (ps : List Part). has_part ps place) replaced-parts-new ∙ behind-none place h)

pub replaced-cells : cells replaced (content_is (codes "")) ≡ SlotOf 0 ∷ SizeOf 0 ∷ SizeOf 1 ∷ []
replaced-cells = rw (replaced-reads, replaced-old, replaced-new) refl

-- the same by the events themselves
pub extends-after : cell_value (after_numbers two_extends.events (start_state two_extends) (2 ∷ 1 ∷ [])) (SizeOf 0) ≡ Sized 3
extends-after = refl

pub extends-forward : cell_value (after_numbers two_extends.events (start_state two_extends) (1 ∷ 2 ∷ [])) (SizeOf 0) ≡ Sized 7
extends-forward = refl
