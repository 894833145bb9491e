-- A run of a good derivation does not stop where its texts leave room for each line.
use Rattle.std.proofs.Common.{◌≡◌, ℕ, Bool, true, false, List, [], ◌∷◌, ◌++◌, length, Option, None, Some, refl, sym, ◌∙◌, ap, subst}
use Rattle.fof_terms.specs.Vocabulary.{Vocabulary}
use Rattle.fof_terms.specs.declared.form.Form.{Form}
use Rattle.clause_form.specs.Paths.{forms_of}
use Rattle.clause_form.specs.declared.path.Parent.{Parent}
use Rattle.kernel.specs.Statements.{Statements}
use Rattle.kernel.specs.declared.entry.Entry.{Entry}
use Rattle.step_clauses.specs.Room.{HasRoom}
use Rattle.tstp_graph.specs.declared.shape.Ref.{Ref}
use Rattle.tstp_graph.specs.Order.{TakesInTurn}
use Rattle.verifier.specs.Good.{without_numbers, FollowInTurn, IsGood, HaveRoom}
use Rattle.verifier.specs.Lines.{Derivation, Line, IsLineAt, parents_of, sources_of}
use Rattle.verifier.specs.Run.{Progress, AreAnswered, HasRoomAt, IsStopped, begun}
use Rattle.verifier.specs.declared.answer.LineAnswer.{LineAnswer}
use Rattle.verifier.proofs.Accepting.{parents_forms}
use Rattle.verifier.proofs.Goodness.{IsSound, begun_sound, candidates_alike, forms_without_numbers, turn_accepted}
use Rattle.verifier.proofs.Turns.{turn_of}

-- the sources of a line have the formulas that its text says
sources_said : (leaf : Bool) (given : List Form) (cited : Bool) (parents : List Parent) → forms_of (sources_of leaf given cited (without_numbers (forms_of parents))) ≡ forms_of (sources_of leaf given cited parents)
sources_said true given cited parents = candidates_alike given cited (without_numbers (forms_of parents)) parents (forms_without_numbers (forms_of parents))
sources_said false given cited parents = forms_without_numbers (forms_of parents)

-- a line for which there is room by the texts has room in a theory with their symbols
line_room : (v : Vocabulary) (d : Derivation) (p : Progress) (place : ℕ) (line : Line) → p.theory.vocabulary ≡ v → HaveRoom v d → IsLineAt d place line → HasRoomAt p.theory d line (parents_of d.given d.forms p.numbers line.node.parents)
line_room v d p place line same room there = by (parents_of d.given d.forms p.numbers line.node.parents) refl
  where
    by : (found : Option (List Parent)) → parents_of d.given d.forms p.numbers line.node.parents ≡ found → HasRoomAt p.theory d line found
    by None is = tt
    by (Some parents) is =
        let said = room place line (forms_of parents) there (parents_forms d p.numbers line.node.parents parents is) in
        subst (λ (w : Vocabulary). HasRoom (length w.symbols) (forms_of (sources_of line.node.leaf d.given line.node.cited parents)) line.form) (sym same)
        (subst (λ (fs : List Form). HasRoom (length v.symbols) fs line.form) (sources_said line.node.leaf d.given line.node.cited parents) said)

-- no line of a good derivation brings in symbols
keeps_symbols : (v : Vocabulary) (d : Derivation) (answers : List LineAnswer) (taken : List ℕ) (earlier : List Form) (old : Progress) (places rest : List ℕ) (entries : List Entry) (new : Progress) (cites : List Ref) → FollowInTurn v d earlier (places ++ rest) cites → IsSound v d taken earlier old → TakesInTurn d.nodes taken (places ++ rest)
    → AreAnswered d answers old places entries new → new.theory.vocabulary ≡ v
keeps_symbols v d answers taken earlier old [] rest entries new cites follow sound turns are = ap (λ (p : Progress). p.theory.vocabulary) are.1 ∙ sound.same.vocabulary
keeps_symbols v d answers taken earlier old (place ∷ places) rest entries new cites (line, line_cites, later_cites, there, cites_are, follows, follow) sound turns (own, mid, a, (later, entries_are, more)) =
    let here = turn_accepted v d answers taken earlier old place own mid line line_cites there follows sound (turn_of d.nodes taken place turns.0) a in
    keeps_symbols v d answers (taken ++ place ∷ []) (earlier ++ line.form ∷ []) mid places rest later new later_cites follow here.1 turns.1 more

pub good_not_stopped : (start : Statements) (d : Derivation) (order : List ℕ) (cites : List Ref) (place : ℕ) (entries : List Entry) (end : Statements) → start.formulas ≡ d.given → IsGood start.vocabulary d order cites → TakesInTurn d.nodes [] order → HaveRoom start.vocabulary d → IsStopped start d order place entries end → ⊥
good_not_stopped start d order cites place entries end given good turns room s =
    let rest = place ∷ s.behind in
    let follow : FollowInTurn start.vocabulary d [] (s.before ++ rest) cites = subst (λ (ps : List ℕ). FollowInTurn start.vocabulary d [] ps cites) s.order_is good.each in
    let taken : TakesInTurn d.nodes [] (s.before ++ rest) = subst (TakesInTurn d.nodes []) s.order_is turns in
    let p : Progress = record { theory = end; numbers = s.numbers } in
    let same : end.vocabulary ≡ start.vocabulary = keeps_symbols start.vocabulary d s.answers [] [] (begun start d) s.before rest entries p cites follow (begun_sound start d given) taken s.answered in
    s.lacks.lacks (line_room start.vocabulary d p place s.lacks.line same room s.lacks.there)
