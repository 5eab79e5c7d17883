-- A word is looked up in a table where it is one of the table's words, and in vain where it is none.
use Rattle.std.proofs.Common.{◌≡◌, ℕ, Bool, true, false, Decides, if◌then◌else◌, List, [], ◌∷◌, Some, None, bytes_eq, refl, ◌∙◌, ap}
use Rattle.std.proofs.lemmas.Slice.Eq.{bytes_eq-Decides}
use Rattle.model_reader.specs.declared.words.BaseWord.{BaseWord}
use Rattle.model_reader.specs.declared.words.BaseWord.TheVariants as base
use Rattle.model_reader.specs.declared.words.KindWord.{KindWord}
use Rattle.model_reader.specs.declared.words.KindWord.TheVariants as kind
use Rattle.model_reader.specs.Words.{looked_up, base_words, kind_words}
use Rattle.model_reader.specs.WordTexts.{base_text, base_expr, kind_text, kind_bit}

-- a fact of each row's word
abbrev Each : {X : Type 0} → (List ℕ → Type 0) → List (List ℕ × X) → Type 0
Each P [] = Unit {0}
Each P (row ∷ rows) = P row.0 × Each P rows

differs : (b : Bool) (P : Type 0) → Decides b P → (P → ⊥) → b ≡ false
differs true P decides none = absurd (none (decides.0 refl))
differs false P decides none = refl

in_vain : {X : Type 0} (word : List ℕ) (rows : List (List ℕ × X)) → Each (λ (w : List ℕ). word ≡ w → ⊥) rows → looked_up rows word ≡ None
in_vain word [] none = refl
in_vain word (row ∷ rows) none =
    ap (λ (b : Bool). if b then Some row.1 else looked_up rows word) (differs (bytes_eq word row.0) (word ≡ row.0) (bytes_eq-Decides word row.0) none.0)
    ∙ in_vain word rows none.1

base_found : (b : BaseWord) → looked_up base_words (base_text b) ≡ Some (base_expr b)
base_found base.Po = refl
base_found base.Id = refl
base_found base.Any = refl
base_found base.File = refl
base_found base.Block = refl
base_found base.Dir = refl
base_found base.Name = refl
base_found base.Call = refl
base_found base.Txn = refl

pub base_is : (word : List ℕ) (b : BaseWord) → word ≡ base_text b → looked_up base_words word ≡ Some (base_expr b)
base_is word b same = ap (looked_up base_words) same ∙ base_found b

pub base_isnt : (word : List ℕ) → ((b : BaseWord) → word ≡ base_text b → ⊥) → looked_up base_words word ≡ None
base_isnt word none = in_vain word base_words
    (none base.Po, (none base.Id, (none base.Any, (none base.File, (none base.Block, (none base.Dir, (none base.Name, (none base.Call, (none base.Txn, tt)))))))))

kind_found : (k : KindWord) → looked_up kind_words (kind_text k) ≡ Some (kind_bit k)
kind_found kind.Write = refl
kind_found kind.Extend = refl
kind_found kind.Trunc = refl
kind_found kind.Attr = refl
kind_found kind.Link = refl
kind_found kind.Unlink = refl
kind_found kind.Fsync = refl
kind_found kind.FsyncDir = refl
kind_found kind.Sync = refl
kind_found kind.Mark = refl

pub kind_is : (word : List ℕ) (k : KindWord) → word ≡ kind_text k → looked_up kind_words word ≡ Some (kind_bit k)
kind_is word k same = ap (looked_up kind_words) same ∙ kind_found k

pub kind_isnt : (word : List ℕ) → ((k : KindWord) → word ≡ kind_text k → ⊥) → looked_up kind_words word ≡ None
kind_isnt word none = in_vain word kind_words
    (none kind.Write, (none kind.Extend, (none kind.Trunc, (none kind.Attr, (none kind.Link, (none kind.Unlink, (none kind.Fsync, (none kind.FsyncDir, (none kind.Sync, (none kind.Mark, tt))))))))))
