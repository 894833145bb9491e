use Rattle.std.proofs.Common.{◌≡◌, ◌++◌, take}
use Rattle.std.specs.List.{All, flat_map}
use Rattle.proof_log.specs.code.LogText.{term_text}
use Rattle.proof_log.specs.LogText.{term_words}
use Rattle.proof_log.specs.Words.{AreInRange}
use Rattle.proof_log.proofs.forms.+put_term.Given as goal

abbrev pub invariant-put_terms-loop-term : goal.invariant-put_terms-loop-term
invariant-put_terms-loop-term l = record {
  written : l.text.items ≡ (l.initial.text.items ++ flat_map term_text (take l.term-index l.terms));
  in_range : All (λ x. AreInRange (term_words x)) (take l.term-index l.terms);
}
