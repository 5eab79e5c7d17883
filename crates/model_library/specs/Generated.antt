-- The litmus test that is made of a seed and a number of calls.
use Rattle.std.specs.Prelude.{ℕ, zero, suc, ◌+◌, ◌-◌, ◌*◌, ◌/◌, ◌%◌, ◌==◌, true, List, [], ◌∷◌, ◌++◌, codes, decimal, if◌then◌else◌}
use Rattle.rand_core.specs.Pcg32Seed.{pcg32_seed}
use Rattle.rand_pcg.specs.Lcg.{Lcg}
use Rattle.rand_pcg.specs.Pcg.{pcg32, pcg32_of_seed}
use Rattle.litmus_syntax.specs.declared.call.Call.{Call}
use Rattle.litmus_syntax.specs.declared.call.Call.TheVariants.{Create, Write, Truncate, Link, Attr, Mark}
use Rattle.litmus_syntax.specs.declared.call.Step.{Step}
use Rattle.litmus_syntax.specs.declared.pred.Pred.{Pred}
use Rattle.litmus_syntax.specs.declared.pred.Pred.TheVariants.{False, Exists, Seen, Not, And, Or}
use Rattle.litmus_syntax.specs.Test.{Test}

-- the generator that a seed begins
abbrev pub begun : ℕ → Lcg
begun seed = pcg32_of_seed (pcg32_seed 16 seed)

-- the first n words of a generator
unfoldable pub words_of : Lcg → ℕ → List ℕ
words_of g zero = []
words_of g (suc n) = (pcg32 g).0 ∷ words_of (pcg32 g).1 n

-- a letter with a number behind it
abbrev pub numbered : ℕ → ℕ → List ℕ
numbered letter i = letter ∷ decimal i

-- the path of a name in the root
abbrev pub path_of : List ℕ → List (List ℕ)
path_of name = name ∷ []

-- the last digit of a number
abbrev pub last_digit : ℕ → List ℕ
last_digit i = (48 + i % 10) ∷ []

-- a write to the file: a digit at one of the first eight places, which the word says
abbrev pub generated_write : List ℕ → ℕ → ℕ → Call
generated_write name i word = Write (path_of name) (word / 5 % 8) (last_digit i)

-- what the word says that call i does: a write to one of two files, an attribute, a truncation or a link
unfoldable pub generated_change : ℕ → ℕ → Call
generated_change i word =
    if word % 5 == 0 then generated_write (codes "a") i word
    else (if word % 5 == 1 then generated_write (codes "b") i word
    else (if word % 5 == 2 then Attr (path_of (codes "a")) (codes "k") i
    else (if word % 5 == 3 then Truncate (path_of (codes "b")) 8
    else Link (path_of (codes "a")) (path_of (numbered 108 i)))))

-- call i: of each eight the last is a mark and the first makes a file, and the word says the others
unfoldable pub generated_call : ℕ → ℕ → Call
generated_call i word =
    if i % 8 == 0 then Mark (numbered 109 i)
    else (if i % 8 == 1 then Create (path_of (numbered 110 i))
    else generated_change i word)

-- the calls from call i on, one for each word; call 1 stands in line 9
abbrev pub generated_calls : ℕ → List ℕ → List Step
generated_calls i [] = []
generated_calls i (word ∷ words) = record { line = 8 + i; call = generated_call i word } ∷ generated_calls (i + 1) words

-- a file of eight zeros, made in this line and the next
abbrev pub generated_file : List ℕ → ℕ → List Step
generated_file name line =
    record { line = line; call = Create (path_of name) }
    ∷ record { line = line + 1; call = Write (path_of name) 0 (codes "00000000") }
    ∷ []

-- two such files
abbrev pub generated_setup : List Step
generated_setup = generated_file (codes "a") 4 ++ generated_file (codes "b") 6

-- call i, a mark, was seen, and the file that was made seven calls before it isn't there
abbrev pub lost_before : ℕ → Pred
lost_before i = And (Seen (numbered 109 i)) (Not (Exists (path_of (numbered 110 (i - 7)))))

-- that for one of the first n marks; `or` groups to the left
abbrev pub generated_pred : ℕ → Pred
generated_pred zero = False
generated_pred (suc zero) = lost_before 8
generated_pred (suc (suc n)) = Or (generated_pred (suc n)) (lost_before (8 * (n + 2)))

-- the test `work`
unfoldable pub generated : ℕ → ℕ → Test
generated seed calls =
    record {
      name = codes "work";
      block = 4;
      setup = generated_setup;
      body = generated_calls 1 (words_of (begun seed) calls);
      want = true;
      pred = generated_pred (calls / 8);
      pred_line = 9 + calls;
      version = 1;
      sector = 4;
    }
