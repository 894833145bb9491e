-- What a search says of a step, from what its parts ensure.
use Rattle.std.specs.Prelude.{ℕ, ◌≡◌, ◌+◌, ◌≤◌, ◌++◌, true, false, List, [], length}
use Rattle.std.specs.List.{All as Each}
use Rattle.std.proofs.Common.{ap, sym, subst, ◌∙◌, arith}
use Rattle.fof_terms.specs.Vocabulary.{Vocabulary, IsDeclared}
use Rattle.fof_terms.specs.declared.form.Form.{Form}
use Rattle.clause_form.specs.Paths.{forms_of}
use Rattle.clause_form.specs.declared.clause.Clause.{Clause}
use Rattle.clause_form.specs.declared.path.Parent.{Parent}
use Rattle.clause_order.specs.Weights.{clause_weight}
use Rattle.clause_rules.specs.Steps.{AreReady, IsReady}
use Rattle.kernel.specs.Statements.{Statements}
use Rattle.input_proofs.specs.Functions.{searched_clauses, searched_vocabulary}
use Rattle.step_clauses.specs.Inputs.{search_symbols}
use Rattle.step_clauses.specs.Room.{AreBelow, HasRoom}
use Rattle.step_clauses.specs.Wide.{is_wide}
use Rattle.step_clauses.specs.declared.skolems.Skolem.{Skolem}
use Rattle.superpose.specs.Drafts.{IsClause}
use Rattle.saturation.specs.Ends.{EndsWith, HasFitMembers, HasOrigins, IsDry, IsFull, IsHeavy, IsRefuted}
use Rattle.saturation.specs.Members.{clauses_of}
use Rattle.saturation.specs.Origins.{AreMade, IsMade}
use Rattle.saturation.specs.declared.member.Member.{Member}
use Rattle.saturation.specs.declared.outcome.Outcome.{Outcome}
use Rattle.saturation.specs.declared.outcome.Outcome.TheVariants.{Refuted, Dry, Full, Heavy}
use Rattle.search_proofs.specs.Searched.{IsSearchedFrom}
use Rattle.kernel.specs.declared.entry.Entry.{Entry}
use Rattle.step_search.specs.Search.{HasList, IsRefutation, IsSearched}
use Rattle.step_search.specs.declared.outcome.Searched.TheVariants.{Wide}
use Rattle.step_search.specs.declared.outcome.Searched.TheVariants as searched
use Rattle.step_search.proofs.Growing.{symbols_in, with_symbols}
use Rattle.step_search.proofs.Inputs.{are_declared, clauses_fit, clauses_light, functions_fit}

-- The first number behind the symbols.
pub next_is : (v s : Vocabulary) (next : ℕ) → next ≡ length s.symbols → s ≡ v → next ≡ length v.symbols
next_is v s next en es = en ∙ ap (λ (x : Vocabulary). length x.symbols) es

module _ (v : Vocabulary) (parents : List Parent) (line : Form) (next : ℕ) (is : next ≡ length v.symbols) where
  pub are_below : AreReady v parents → IsReady v line → AreBelow next parents line
  are_below ready line_ready = record { vocabulary = v; new = omega arith; parents = ready; line = line_ready }

  pub has_room : HasRoom (length v.symbols) (forms_of parents) line → HasRoom next (forms_of parents) line
  has_room room = subst (λ (n : ℕ). HasRoom n (forms_of parents) line) (sym is) room

-- A vocabulary that is made has the functions.
module _ (v : Vocabulary) (parents : List Parent) (line : Form) (s : Vocabulary) (es : s ≡ v) (skolems : List Skolem) (ek : skolems ≡ search_symbols (length v.symbols) (forms_of parents) line) where
  pub room_for_all : is_wide (length v.symbols) (forms_of parents) line ≡ false → HasRoom (length v.symbols) (forms_of parents) line → AreReady v parents → IsReady v line → length s.symbols + length skolems ≤ 16777216
  room_for_all narrow room ready line_ready =
      let fit = functions_fit v parents line ready line_ready narrow room in
      subst (λ (x : Vocabulary). length x.symbols + length skolems ≤ 16777216) (sym es) (subst (λ (l : List Skolem). length v.symbols + length l ≤ 16777216) (sym ek) fit)

  pub all_declared : AreReady v parents → IsReady v line → Each (λ (k : Skolem). IsDeclared (length s.sorts) k.symbol) skolems
  all_declared ready line_ready =
      subst (λ (x : Vocabulary). Each (λ (k : Skolem). IsDeclared (length x.sorts) k.symbol) skolems) (sym es)
      (subst (λ (l : List Skolem). Each (λ (k : Skolem). IsDeclared (length v.sorts) k.symbol) l) (sym ek) (are_declared v parents line ready line_ready))

  pub is_grown : (g : Vocabulary) → g ≡ with_symbols s (s.symbols ++ symbols_in skolems) → g ≡ searched_vocabulary v parents line
  is_grown g e = e ∙ ap (λ (x : Vocabulary). with_symbols x (x.symbols ++ symbols_in skolems)) es ∙ ap (λ (l : List Skolem). with_symbols v (v.symbols ++ symbols_in l)) ek

-- The clauses over it.
module _ (t : Statements) (parents : List Parent) (line : Form) (narrow : is_wide (length t.vocabulary.symbols) (forms_of parents) line ≡ false) (g : Vocabulary) (eg : g ≡ searched_vocabulary t.vocabulary parents line)
    (clauses : List Clause) (ec : clauses ≡ searched_clauses t.vocabulary parents line) where
  pub inputs_fit : AreReady t.vocabulary parents → IsReady t.vocabulary line → Each (IsClause g) clauses
  inputs_fit ready line_ready =
      subst (λ (w : Vocabulary). Each (IsClause w) clauses) (sym eg) (subst (Each (IsClause (searched_vocabulary t.vocabulary parents line))) (sym ec) (clauses_fit t.vocabulary parents line ready line_ready narrow))

  pub inputs_light : AreReady t.vocabulary parents → IsReady t.vocabulary line → Each (λ (c : Clause). clause_weight c ≤ 100000000) clauses
  inputs_light ready line_ready = subst (Each (λ (c : Clause). clause_weight c ≤ 100000000)) (sym ec) (clauses_light t.vocabulary parents line ready line_ready narrow)

  pub has_list : (Ends : Vocabulary → List Clause → List Clause → Type 0) (list : List Clause) → Ends g clauses list → HasList t.vocabulary parents line Ends
  has_list Ends list ends = record {
    narrow = narrow;
    list = list;
    ends = subst (λ (w : Vocabulary). Ends w (searched_clauses t.vocabulary parents line) list) eg (subst (λ (cs : List Clause). Ends g cs list) ec ends);
  }

  module _ (limit : ℕ) (o : Outcome) (list : List Member) (ends : EndsWith g clauses limit o) where
    pub dry_said : o ≡ Dry list → IsSearched t parents line limit searched.Dry
    dry_said e = has_list (λ v inputs l. IsDry v inputs limit l) (clauses_of list) (subst (EndsWith g clauses limit) e ends)

    pub full_said : o ≡ Full list → IsSearched t parents line limit searched.Full
    full_said e = has_list (λ v inputs l. IsFull v inputs limit l) (clauses_of list) (subst (EndsWith g clauses limit) e ends)

    pub heavy_said : o ≡ Heavy list → IsSearched t parents line limit searched.Heavy
    heavy_said e = has_list (λ v inputs l. IsHeavy v inputs limit l) (clauses_of list) (subst (EndsWith g clauses limit) e ends)

    pub refuted_said : (empty : Member) (entries : List Entry) → o ≡ Refuted list empty → IsSearchedFrom t parents entries line → IsSearched t parents line limit (searched.Refuted entries)
    refuted_said empty entries e from = (has_list (IsRefutation limit) (clauses_of list) (empty.clause, subst (EndsWith g clauses limit) e ends), from)

-- What a search hands out that ends refuted.
module _ (g : Vocabulary) (o : Outcome) (list slice : List Member) (empty : Member) (is : o ≡ Refuted list empty) (same : slice ≡ list) where
  pub refuted_made : (clauses inputs : List Clause) → clauses ≡ inputs → HasOrigins g clauses o → AreMade g inputs slice × IsMade g inputs (clauses_of slice) empty
  refuted_made clauses inputs ec origins =
      let made : AreMade g clauses list × IsMade g clauses (clauses_of list) empty = subst (HasOrigins g clauses) is origins in
      let moved : AreMade g inputs list × IsMade g inputs (clauses_of list) empty = subst (λ (cs : List Clause). AreMade g cs list × IsMade g cs (clauses_of list) empty) ec made in
      subst (λ (ms : List Member). AreMade g inputs ms × IsMade g inputs (clauses_of ms) empty) (sym same) moved

  pub refuted_fit : HasFitMembers g o → Each (λ (m : Member). IsClause g m.clause) slice × IsClause g empty.clause
  refuted_fit fit =
      let all : Each (λ (m : Member). IsClause g m.clause) list × IsClause g empty.clause = subst (HasFitMembers g) is fit in
      subst (λ (ms : List Member). Each (λ (m : Member). IsClause g m.clause) ms × IsClause g empty.clause) (sym same) all

  pub refuted_empty : (clauses : List Clause) (limit : ℕ) → EndsWith g clauses limit o → empty.clause.lits ≡ []
  refuted_empty clauses limit ends = let refuted : IsRefuted g clauses limit (clauses_of list) empty.clause = subst (EndsWith g clauses limit) is ends in refuted.is_empty

pub wide_said : (t : Statements) (parents : List Parent) (line : Form) (limit next : ℕ) → next ≡ length t.vocabulary.symbols → is_wide next (forms_of parents) line ≡ true → IsSearched t parents line limit Wide
wide_said t parents line limit next is e = subst (λ (n : ℕ). is_wide n (forms_of parents) line ≡ true) is e
