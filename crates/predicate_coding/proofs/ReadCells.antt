-- The cells that an atom reads of any file serve for each file as all cells do.
use Rattle.std.proofs.Common.{◌≡◌, ℕ, Bool, true, false, ◌&&◌, List, [], ◌∷◌, filter, inl, inr, refl, ap}
use Rattle.std.proofs.lemmas.Bool.{cases_Bool}
use Rattle.std.specs.List.{flat_map}
use Rattle.clause_store.specs.declared.Lit.{Lit}
use Rattle.fer_events.specs.Tables.{Trace}
use Rattle.value_coding.specs.declared.cell.CodedCell.{CodedCell}
use Rattle.predicate_coding.specs.declared.asked.Asked.{Asked}
use Rattle.predicate_coding.specs.Asking.{is_unknown, reads, reads_file, is_of}
use Rattle.predicate_coding.specs.Fits.{unsuited, misfits, fits_unless, fits_lit, fits_clauses}
use Rattle.predicate_coding.proofs.AtomSteps.{flat-same}

and-false : (b : Bool) → (b && false) ≡ false
and-false true = refl
and-false false = refl

abbrev pub read_any : Asked → List CodedCell → List CodedCell
read_any asked cells = filter (λ c. reads_file asked c.cell) cells

read-twice : (asked : Asked) (file : ℕ) (cells : List CodedCell) → filter (λ c. reads asked file c.cell) (read_any asked cells) ≡ filter (λ c. reads asked file c.cell) cells
read-twice asked file [] = refl
read-twice asked file (c ∷ cells) = elim (cases_Bool (reads_file asked c.cell)) [
  | inl read ↦ rw read (elim (cases_Bool (is_of file c.cell)) [
    | inl own ↦ rw own (rw read (ap (λ (cs : List CodedCell). c ∷ cs) (read-twice asked file cells)))
    | inr other ↦ rw other (read-twice asked file cells)
  ])
  | inr unread ↦ rw (unread, and-false (is_of file c.cell)) (read-twice asked file cells)
]

fits-read : (t : Trace) (cells : List CodedCell) (first : ℕ) (asked : Asked) (slot file : ℕ) → fits_clauses t (read_any asked cells) first asked slot file ≡ fits_clauses t cells first asked slot file
fits-read t cells first asked slot file = elim (cases_Bool (is_unknown asked)) [
  | inl unknown ↦ rw unknown refl
  | inr known ↦ rw known (ap (λ (cs : List CodedCell). fits_unless (fits_lit t slot first file) (flat_map (unsuited t asked) cs)) (read-twice asked file cells))
]

pub candidates-read :
    (t : Trace) (cells : List CodedCell) (first : ℕ) (asked : Asked) (slot : ℕ) (files : List ℕ)
    → flat_map (fits_clauses t (read_any asked cells) first asked slot) files ≡ flat_map (fits_clauses t cells first asked slot) files
candidates-read t cells first asked slot files =
    flat-same (fits_clauses t (read_any asked cells) first asked slot) (fits_clauses t cells first asked slot) files (fits-read t cells first asked slot)
