-- How a log is written, line by line. Tokens are separated by one space, and numbers have no leading zeros, so each log is
-- written in one way.
use Rattle.std.specs.Prelude.{ℕ, Bool, List, [], ◌∷◌, ◌++◌, Option, None, Some, map, take, drop, decimal, codes, is_some, if◌then◌else◌}
use Rattle.std.specs.List.{flat_map}
use Rattle.litmus_syntax.specs.declared.site.SiteKind.{SiteKind}
use Rattle.litmus_syntax.specs.declared.site.SiteKind.TheVariants as sites
use Rattle.clause_store.specs.declared.Lit.{Lit}
use Rattle.numerals.specs.Numbers.{numbers_text}
use Rattle.proof_log.specs.Logs.{Logged}

-- the sign of a literal, and its variable
abbrev pub sign : Bool → List ℕ
sign positive = if positive then [] else codes "-"

abbrev pub literal_text : Lit → List ℕ
literal_text l = sign l.positive ++ decimal l.var

-- a clause: its literals, each with a space behind it, and a closing 0; so the empty clause is the line `0`
abbrev pub literals_text : List Lit → List ℕ
literals_text lits = flat_map (λ l. literal_text l ++ codes " ") lits

abbrev pub clause_line : List Lit → List ℕ
clause_line lits = literals_text lits ++ codes "0"

-- the word of a kind of syncs
abbrev pub kind_word : SiteKind → List ℕ
kind_word sites.Fsync = codes "fsync"
kind_word sites.Sync = codes "sync"
kind_word sites.All = codes "all"

-- the second version is the one that has a question
abbrev pub head_line : Bool → List ℕ
head_line second = if second then codes "ferrite log 2" else codes "ferrite log 1"

-- the syncs for which the log was made
abbrev pub sites_line : Option SiteKind → List ℕ → List ℕ
sites_line None numbers = codes "sites none"
sites_line (Some kind) numbers = codes "sites " ++ kind_word kind ++ numbers_text numbers

-- how many variables and clauses the formula has
abbrev pub formula_line : ℕ → ℕ → List ℕ
formula_line vars clauses = codes "formula" ++ numbers_text (vars ∷ clauses ∷ [])

abbrev pub opening_lines : Logged → List (List ℕ)
opening_lines l = head_line (is_some l.question) ∷ sites_line l.kind l.sites ∷ formula_line l.part.vars l.part.clauses ∷ []

-- the clauses, with the question behind the first `q` of them
abbrev pub asked_lines : Option ℕ → List (List ℕ) → List (List ℕ)
asked_lines None lines = lines
asked_lines (Some q) lines = take q lines ++ codes "question" ∷ drop q lines

abbrev pub learned_lines : Logged → List (List ℕ)
learned_lines l = asked_lines l.question (map clause_line l.part.learned)

-- the empty clause, where it ends the log, and the end
abbrev pub closing_lines : Bool → List (List ℕ)
closing_lines closed = (if closed then clause_line [] ∷ [] else []) ++ codes "end" ∷ []

abbrev pub log_lines : Logged → List (List ℕ)
log_lines l = opening_lines l ++ learned_lines l ++ closing_lines l.part.closed

-- lines as one text, each with its line feed
abbrev pub text_of : List (List ℕ) → List ℕ
text_of lines = flat_map (λ line. line ++ codes "\n") lines

abbrev pub log_text : Logged → List ℕ
log_text l = text_of (log_lines l)
