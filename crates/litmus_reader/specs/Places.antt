-- At which place of a litmus file each form of a line may stand.
use Rattle.std.specs.Prelude.{◌≡◌, ◌⊎◌, ℕ, List, [], ◌∷◌, ◌++◌, replicate}
use Rattle.litmus_reader.specs.declared.statements.Form.{Form}
use Rattle.litmus_reader.specs.declared.statements.Form.TheVariants.{Head, Block, Sector, Setup, Body, Call, Question}

-- at most one line of this form
abbrev pub IsOneAtMost : Form → List Form → Type 0
IsOneAtMost form forms = (forms ≡ []) ⊎ (forms ≡ form ∷ [])

-- at most one setup line, with its calls
abbrev pub IsSetupPart : List Form → Type 0
IsSetupPart forms = (forms ≡ []) ⊎ ((calls : ℕ) × (forms ≡ Setup ∷ replicate calls Call))

-- the forms of the lines of a whole file
abbrev pub IsOrder : List Form → Type 0
IsOrder forms =
    (block sector setup : List Form) × (calls : ℕ) × IsOneAtMost Block block × IsOneAtMost Sector sector × IsSetupPart setup
    × (forms ≡ Head ∷ block ++ sector ++ setup ++ Body ∷ replicate calls Call ++ Question ∷ [])

-- a line of this form may stand behind lines of those: some whole file begins so
abbrev pub MayStand : List Form → Form → Type 0
MayStand before form = (behind : List Form) × IsOrder (before ++ form ∷ behind)
