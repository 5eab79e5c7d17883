-- Transactions of a body: the calls from a `begin` to its `commit`.
use Rattle.std.specs.Prelude.{Bool, true, false, not, ◌&&◌, ◌||◌, List, [], ◌∷◌, fold, map}
use Rattle.litmus_syntax.specs.declared.call.Call.{Call}
use Rattle.litmus_syntax.specs.declared.call.Call.TheVariants as call
use Rattle.litmus_syntax.specs.declared.call.Step.{Step}
use Rattle.litmus_syntax.specs.CallKinds.{is_sync, is_mark}

-- the calls without their lines
abbrev pub calls_of : List Step → List Call
calls_of steps = map (λ step. step.call) steps

-- whether a transaction is open behind a call, one being open before it or not
abbrev pub open_behind : Bool → Call → Bool
open_behind inside call.Begin = true
open_behind inside call.Commit = false
open_behind inside c = inside

-- whether a transaction is open behind the calls of a body
abbrev pub is_open : List Call → Bool
is_open calls = fold open_behind false calls

-- the call may stand here, a transaction being open or not: none begins in another, none is committed that isn't open,
-- and in an open one nothing waits for the disk and nothing is seen from outside
abbrev pub suits : Bool → Call → Bool
suits inside call.Begin = not inside
suits inside call.Commit = inside
suits inside c = not (inside && (is_sync c || is_mark c))

-- each of the calls may stand where it stands, a transaction being open before the first or not
abbrev pub all_suit : Bool → List Call → Bool
all_suit inside [] = true
all_suit inside (c ∷ cs) = suits inside c && all_suit (open_behind inside c) cs
