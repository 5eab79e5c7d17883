-- The models that come with Ferrite: by which word each is named, and the lines of its file.
use Rattle.std.specs.Prelude.{ℕ, List, [], ◌∷◌, ◌++◌, codes, map}
use Rattle.std.specs.List.{concat}
use Rattle.model_library.specs.declared.texts.ShippedModel.{ShippedModel}
use Rattle.model_library.specs.declared.texts.ShippedModel.TheVariants.{Sequential, Ext4like, Loose}

-- the word by which the model is named
abbrev pub shipped_word : ShippedModel → List ℕ
shipped_word Sequential = codes "sequential"
shipped_word Ext4like = codes "ext4like"
shipped_word Loose = codes "loose"

-- the lines of the model's file
abbrev pub shipped_lines : ShippedModel → List (List ℕ)
shipped_lines Sequential = codes "model sequential" ∷ codes "keep po" ∷ codes "end" ∷ []
shipped_lines Ext4like =
    codes "model ext4like"
    ∷ codes "let names = [link unlink]"
    ∷ codes "let meta = [extend trunc attr]"
    ∷ codes "keep po & block"
    ∷ codes "keep meta ; (po & file) ; meta"
    ∷ codes "keep [write] ; (po & file) ; [extend trunc]"
    ∷ codes "keep names ; (po & dir) ; names"
    ∷ codes "keep [write extend trunc attr] ; (po & file) ; [fsync]"
    ∷ codes "keep names ; (po & dir) ; [fsyncdir]"
    ∷ codes "keep po ; [sync]"
    ∷ codes "keep [fsync fsyncdir sync mark] ; po"
    ∷ codes "end"
    ∷ []
shipped_lines Loose = codes "model loose" ∷ codes "keep po ; [sync]" ∷ codes "keep [sync] ; po" ∷ codes "end" ∷ []

-- the model's file: each line with a line feed behind it
unfoldable pub shipped_text : ShippedModel → List ℕ
shipped_text m = concat (map (λ line. line ++ (10 ∷ [])) (shipped_lines m))
