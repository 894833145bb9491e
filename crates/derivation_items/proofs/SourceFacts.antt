-- Inference records.
use Rattle.std.specs.Prelude.{ℕ, ◌≡◌, ◌++◌, List, [], ◌∷◌, map, Result, Ok, Err, IfOk}
use Rattle.std.proofs.Common.{ap, ◌∙◌}
use Rattle.tptp_base.specs.declared.item.GTerm.{GTerm}
use Rattle.tptp_base.specs.declared.item.GTerm.TheVariants as general
use Rattle.tptp_base.specs.declared.memory.Memory.{Memory}
use Rattle.derivation_items.specs.Sources.{inference_term}
use Rattle.derivation_items.specs.Words.{Text}

-- the record of parents that are names
pub of_names : (r : Result GTerm Memory) (rule status : Text) (parents : List GTerm) (names : List Text) → IfOk r (λ (t : GTerm). (ns : List Text) → parents ≡ map general.Word ns → t ≡ inference_term rule status ns) → parents ≡ map general.Word names
    → IfOk r (λ (t : GTerm). t ≡ inference_term rule status names)
of_names (Ok t) rule status parents names h e = h names e
of_names (Err m) rule status parents names h e = tt

-- one name
pub one_name : (none parents : List GTerm) (word : GTerm) (slice line : Text) → none ≡ [] → parents ≡ none ++ word ∷ [] → word ≡ general.Word slice → slice ≡ line → parents ≡ map general.Word (line ∷ [])
one_name none parents word slice line empty pushed is same = pushed ∙ ap (λ (l : List GTerm). l ++ word ∷ []) empty ∙ ap (λ (w : GTerm). w ∷ []) (is ∙ ap general.Word same)
