-- What may be wrong with a line that states something.
use Rattle.std.specs.Prelude.{◌≡◌, ◌⊎◌, ◌<◌, ◌≤◌, Bool, true, false, not, ◌||◌, List, length, map, None}
use Rattle.std.specs.List.{Contains}
use Rattle.litmus_syntax.specs.CallKinds.{is_setup_call, is_body_call, is_boundary, sync_free, is_sync}
use Rattle.litmus_syntax.specs.Transactions.{is_open, suits}
use Rattle.predicate_reader.specs.Counts.{IsShort}
use Rattle.predicate_reader.specs.Predicates.{IsPredicate}
use Rattle.litmus_syntax.specs.declared.pred.Pred.{Pred}
use Rattle.lexeme_reader.specs.declared.reading.Lexeme.{Lexeme}
use Rattle.lexeme_reader.specs.declared.reading.Lexeme.TheVariants.{Number}
use Rattle.litmus_reader.specs.declared.fault.LitmusKind.{LitmusKind}
use Rattle.litmus_reader.specs.declared.fault.LitmusKind.TheVariants.{EndsEarly, TooLong, BadByte, BadToken, BadLine, OutOfOrder, NumberRange, NotHere, BadPredicate}
use Rattle.litmus_reader.specs.Statements.{Statement, Block, Sector, Called, Question, statement_lexemes, form_of}
use Rattle.litmus_reader.specs.Versions.{version_of, version_has}
use Rattle.litmus_reader.specs.Calls.{begins_body, calls_in, body_calls, block_of}
use Rattle.litmus_reader.specs.Places.{MayStand}

-- a file of this version has no such line
abbrev pub IsForeign : List Statement → Statement → Type 0
IsForeign before s = version_has (version_of before) s ≡ false

-- as far as transactions go, the statement may stand in the body, one being open or not: none begins in another, none is
-- committed that isn't open, and no question is asked in one
abbrev pub pairs : Bool → Statement → Bool
pairs inside (Called c) = not (is_boundary c) || suits inside c
pairs inside (Question want asked) = not inside
pairs inside s = true

-- the form may not stand at this place, or a transaction begins in another, is committed but not open, or is still open
-- at the question
abbrev pub IsOutOfOrder : List Statement → Statement → Type 0
IsOutOfOrder before s =
    (MayStand (map form_of before) (form_of s) → ⊥)
    ⊎ ((begins_body before ≡ true) × (pairs (is_open (body_calls before)) s ≡ false))

-- the line has a number above 2^32 - 1
abbrev pub HasWide : Statement → Type 0
HasWide s = Contains (statement_lexemes s) (Number None)

-- a block of 0 or above 65,536, or a sector of 0 or above the block
abbrev pub IsBadSize : List Statement → Statement → Type 0
IsBadSize before (Block size) = (size ≡ 0) ⊎ (65536 < size)
IsBadSize before (Sector size) = (size ≡ 0) ⊎ (block_of before < size)
IsBadSize before s = ⊥

-- a number that is too large, or a size that may not be had
abbrev pub IsOutOfRange : List Statement → Statement → Type 0
IsOutOfRange before s = HasWide s ⊎ IsBadSize before s

-- a call where it may not stand: in the setup a sync, `mark`, `begin` or `commit`; in the body `mkdir`, or in a
-- transaction a sync or `mark`
abbrev pub IsNotHere : List Statement → Statement → Type 0
IsNotHere before (Called c) =
    ((begins_body before ≡ false) × (is_setup_call c ≡ false))
    ⊎ ((begins_body before ≡ true) × ((is_body_call c ≡ false) ⊎ (suits (is_open (body_calls before)) c ≡ false)))
IsNotHere before s = ⊥

-- the 257th call of the setup, the 129th of the body that isn't a sync, or a question that is too long
abbrev pub IsTooLong : List Statement → Statement → Type 0
IsTooLong before (Called c) =
    ((begins_body before ≡ false) × (256 ≤ length (calls_in before)))
    ⊎ ((begins_body before ≡ true) × (is_sync c ≡ false) × (128 ≤ length (sync_free (body_calls before))))
IsTooLong before (Question want asked) = IsShort asked → ⊥
IsTooLong before s = ⊥

-- a question whose tokens are no predicate
abbrev pub AsksNothing : Statement → Type 0
AsksNothing (Question want asked) = (p : Pred) → IsPredicate asked p → ⊥
AsksNothing s = ⊥

-- a fault of this kind is in the statement, which stands behind those
abbrev pub Has : List Statement → Statement → LitmusKind → Type 0
Has before s BadLine = IsForeign before s
Has before s OutOfOrder = IsOutOfOrder before s
Has before s NumberRange = IsOutOfRange before s
Has before s NotHere = IsNotHere before s
Has before s TooLong = IsTooLong before s
Has before s BadPredicate = AsksNothing s
Has before s BadByte = ⊥
Has before s BadToken = ⊥
Has before s EndsEarly = ⊥

-- tokens behind those statements have a fault of this kind: they are no statement that a file of this version has, or
-- they are one with that fault
abbrev pub HaveFault : List Statement → List Lexeme → LitmusKind → Type 0
HaveFault before lexemes BadLine = (s : Statement) → lexemes ≡ statement_lexemes s → IsForeign before s
HaveFault before lexemes kind = (s : Statement) × (lexemes ≡ statement_lexemes s) × Has before s kind
