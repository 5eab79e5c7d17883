-- Syncs that are inserted into the body of a litmus test.
use Rattle.std.specs.Prelude.{◌≡◌, ℕ, ◌+◌, ◌==◌, ◌&&◌, false, List, [], ◌∷◌, ◌++◌, map, filter, take, All, IsTrue}
use Rattle.litmus_syntax.specs.declared.call.Step.{Step}
use Rattle.litmus_syntax.specs.declared.site.Site.{Site}
use Rattle.litmus_syntax.specs.CallKinds.{is_sync}
use Rattle.litmus_syntax.specs.Forms.{is_formed_call}
use Rattle.litmus_syntax.specs.Transactions.{calls_of, is_open}

-- what is inserted: syncs, on paths of the form that paths have
abbrev pub AreSyncs : List Site → Type 0
AreSyncs sites = All (λ site. IsTrue (is_sync site.call && is_formed_call site.call)) sites

-- no site stands where a transaction is open
abbrev pub StandOutside : List Step → List Site → Type 0
StandOutside body sites = All (λ site. is_open (take site.after (calls_of body)) ≡ false) sites

-- the calls of the sites behind the body call of this number, which get its line
abbrev pub inserted_at : ℕ → ℕ → List Site → List Step
inserted_at number line sites = map (λ site. record { line = line; call = site.call }) (filter (λ site. site.after == number) sites)

-- the calls of a body from number `number` on, each followed by the calls of its sites
abbrev pub with_sites : ℕ → List Step → List Site → List Step
with_sites number [] sites = []
with_sites number (step ∷ steps) sites = step ∷ inserted_at number step.line sites ++ with_sites (number + 1) steps sites
