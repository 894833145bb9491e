-- A text is one derivation, or has one first fault.
use Rattle.std.proofs.Common.{◌≡◌, ◌⊎◌, inl, inr, ℕ, List, Result, Ok, Err, refl, sym, ◌∙◌, ap, subst}
use Rattle.tptp_base.specs.declared.item.Item.{Item}
use Rattle.tptp_base.specs.declared.name.Name.{Name}
use Rattle.tptp_base.specs.declared.place.Place.{Place}
use Rattle.tptp_lexer.specs.declared.fault.LexFault.{LexFault}
use Rattle.tptp_lexer.specs.declared.fault.LexFault.TheVariants as lexed
use Rattle.tptp_lexer.specs.declared.style.Style.TheVariants as style
use Rattle.tptp_lexer.specs.declared.token.Tokens.{Tokens}
use Rattle.tptp_lexer.specs.Answer as lexer
use Rattle.tptp_lexer.proofs.Answering as lexing
use Rattle.tptp_grammar.specs.declared.fault.GrammarFault.{GrammarFault}
use Rattle.tptp_grammar.specs.declared.fault.GrammarFault.TheVariants as parsed
use Rattle.tptp_grammar.specs.Laws as parser
use Rattle.tptp_grammar.proofs.OneAnswer as parsing
use Rattle.fof_terms.specs.Vocabulary.{Vocabulary}
use Rattle.fof_terms.specs.declared.form.Form.{Form}
use Rattle.sort_check.specs.declared.fault.SortFault.{SortFault}
use Rattle.sort_check.specs.declared.fault.SortFault.TheVariants as sorted
use Rattle.sort_check.specs.declared.line.Line.{Line}
use Rattle.sort_check.specs.declared.line.TextKind.TheVariants as kind
use Rattle.sort_check.specs.Outcomes.{Outcome}
use Rattle.sort_check.specs.Texts.{denoted, Faults}
use Rattle.szs_report.specs.Region.{region_of}
use Rattle.tstp_graph.specs.declared.fault.GraphFault.{GraphFault}
use Rattle.tstp_graph.specs.declared.fault.GraphFault.TheVariants as graph
use Rattle.tstp_graph.specs.declared.shape.Graph.{Graph}
use Rattle.tstp_graph.proofs.OneGraph.{one_graph, one_fault, graph_or_fault}
use Rattle.derivation_text.specs.declared.derivation.Derivation.{Derivation}
use Rattle.derivation_text.specs.declared.fault.DerivationFault.{DerivationFault}
use Rattle.derivation_text.specs.declared.fault.DerivationFault.TheVariants as fault
use Rattle.derivation_text.specs.Derivations.{AreDerivation, IsItemsFault, IsDerivation, IsDerivationFault, denied_forms, names_of, places_of}
use Rattle.tptp_grammar.specs.Texts.{IsParsed}
use Rattle.derivation_text.specs.Texts.{IsRegionLexed, RegionSpells, IsTextFault}
use Rattle.derivation_text.specs.Wants.{IsWant}

-- one of the two is want of memory, or they are the same
abbrev OneOrWant : DerivationFault → DerivationFault → Type 0
OneOrWant f g = IsWant f ⊎ (IsWant g ⊎ (f ≡ g))

-- ---- what a text spells

abbrev lexes : Tokens → Result Tokens LexFault
lexes tokens = Ok tokens

abbrev no_lex : LexFault → Result Tokens LexFault
no_lex first = Err first

abbrev parses : List Item → Result (List Item) GrammarFault
parses items = Ok items

abbrev no_parse : GrammarFault → Result (List Item) GrammarFault
no_parse first = Err first

same_tokens : (t u : Tokens) → lexer.IsOne (lexes t) (lexes u) → t ≡ u
same_tokens t u (inl e) = cc
same_tokens t u (inr (inl e)) = cc
same_tokens t u (inr (inr e)) = cc

lexed_wants : (t : Tokens) (f : LexFault) → lexer.IsOne (lexes t) (no_lex f) → f ≡ lexed.Memory
lexed_wants t f (inl e) = absurd cc
lexed_wants t f (inr (inl e)) = absurd cc
lexed_wants t f (inr (inr e)) = cc

lexed_same : (f g : LexFault) → lexer.IsOne (no_lex f) (no_lex g) → OneOrWant (fault.Lex f) (fault.Lex g)
lexed_same f g (inl e) = let same : f ≡ g = cc in inr (inr (ap (λ (x : LexFault). fault.Lex x) same))
lexed_same f g (inr (inl e)) = let same : f ≡ lexed.Memory = cc in inl same
lexed_same f g (inr (inr e)) = let same : g ≡ lexed.Memory = cc in inr (inl same)

same_items : (xs ys : List Item) → parser.IsOne (parses xs) (parses ys) → xs ≡ ys
same_items xs ys (inl e) = cc
same_items xs ys (inr (inl e)) = cc
same_items xs ys (inr (inr e)) = cc

parsed_wants : (xs : List Item) (f : GrammarFault) → parser.IsOne (parses xs) (no_parse f) → f ≡ parsed.Memory
parsed_wants xs f (inl e) = absurd cc
parsed_wants xs f (inr (inl e)) = absurd cc
parsed_wants xs f (inr (inr e)) = cc

parsed_same : (f g : GrammarFault) → parser.IsOne (no_parse f) (no_parse g) → OneOrWant (fault.Grammar f) (fault.Grammar g)
parsed_same f g (inl e) = let same : f ≡ g = cc in inr (inr (ap (λ (x : GrammarFault). fault.Grammar x) same))
parsed_same f g (inr (inl e)) = let same : f ≡ parsed.Memory = cc in inl same
parsed_same f g (inr (inr e)) = let same : g ≡ parsed.Memory = cc in inr (inl same)

module _ (text : List ℕ) where
  lex_one : (x y : Result Tokens LexFault) → IsRegionLexed text x → IsRegionLexed text y → lexer.IsOne x y
  lex_one = lexing.one 0 text (region_of text) style.Derivation

  one_tokens : (t u : Tokens) → IsRegionLexed text (Ok t) → IsRegionLexed text (Ok u) → t ≡ u
  one_tokens t u h k = same_tokens t u (lex_one (Ok t) (Ok u) h k)

  here : (t u : Tokens) (x : Result (List Item) GrammarFault) → IsRegionLexed text (Ok t) → IsRegionLexed text (Ok u) → IsParsed u x → IsParsed t x
  here t u x h k p = subst (λ (v : Tokens). IsParsed v x) (one_tokens u t k h) p

  pub one_spelled : (xs ys : List Item) → RegionSpells text xs → RegionSpells text ys → xs ≡ ys
  one_spelled xs ys s r = same_items xs ys (parsing.one s.tokens.style s.tokens.items s.tokens.end (Ok xs) (Ok ys) s.parsed (here s.tokens r.tokens (Ok ys) s.lexed r.lexed r.parsed))

  -- what spells items has no fault
  spelled_wants : (xs : List Item) (f : DerivationFault) → RegionSpells text xs → IsTextFault text f → IsWant f
  spelled_wants xs (fault.Lex first) s is = lexed_wants s.tokens first (lex_one (Ok s.tokens) (Err first) s.lexed is)
  spelled_wants xs (fault.Grammar first) s (tokens, lexed, is) = parsed_wants xs first (parsing.one s.tokens.style s.tokens.items s.tokens.end (Ok xs) (Err first) s.parsed (here s.tokens tokens (Err first) s.lexed lexed is))
  spelled_wants xs (fault.Graph first) s is = absurd is
  spelled_wants xs (fault.Sort first) s is = absurd is
  spelled_wants xs fault.Memory s is = tt

  one_text_fault : (f g : DerivationFault) → IsTextFault text f → IsTextFault text g → OneOrWant f g
  one_text_fault fault.Memory g is also = inl tt
  one_text_fault (fault.Graph first) g is also = absurd is
  one_text_fault (fault.Sort first) g is also = absurd is
  one_text_fault f fault.Memory is also = inr (inl tt)
  one_text_fault f (fault.Graph first) is also = absurd also
  one_text_fault f (fault.Sort first) is also = absurd also
  one_text_fault (fault.Lex first) (fault.Lex other) is also = lexed_same first other (lex_one (Err first) (Err other) is also)
  one_text_fault (fault.Lex first) (fault.Grammar other) is (tokens, lexed, also) = inl (lexed_wants tokens first (lex_one (Ok tokens) (Err first) lexed is))
  one_text_fault (fault.Grammar first) (fault.Lex other) (tokens, lexed, is) also = inr (inl (lexed_wants tokens other (lex_one (Ok tokens) (Err other) lexed also)))
  one_text_fault (fault.Grammar first) (fault.Grammar other) (t, lexed, is) (u, again, also) = parsed_same first other (parsing.one t.style t.items t.end (Err first) (Err other) is (here t u (Err other) lexed again also))

-- ---- what items are

abbrev Denotation : Type 0
Denotation = Outcome SortFault Vocabulary (List Line)

abbrev meaning : List Line → Vocabulary → Denotation
meaning lines v = Ok (lines, v)

abbrev lines_or : List Line → Denotation → List Line
lines_or none (Ok p) = p.0
lines_or none (Err first) = none

abbrev vocabulary_or : Vocabulary → Denotation → Vocabulary
vocabulary_or v (Ok p) = p.1
vocabulary_or v (Err first) = v

not_meant : (lines : List Line) (v : Vocabulary) (first : SortFault) (outcome : Denotation) → outcome ≡ meaning lines v → Faults outcome first → first ≡ sorted.Memory
not_meant lines v (sorted.Line rule place name) outcome is fails = let wrong : meaning lines v ≡ Err (sorted.Line rule place name) = sym is ∙ fails in absurd cc
not_meant lines v sorted.Memory outcome is fails = refl

abbrev no_meaning : SortFault → Denotation
no_meaning first = Err first

same_sort : (first other : SortFault) → no_meaning first ≡ no_meaning other → first ≡ other
same_sort first other e = cc

sorts_same : (first other : SortFault) (outcome : Denotation) → Faults outcome first → Faults outcome other → OneOrWant (fault.Sort first) (fault.Sort other)
sorts_same sorted.Memory other outcome is also = inl refl
sorts_same (sorted.Line rule place name) sorted.Memory outcome is also = inr (inl refl)
sorts_same (sorted.Line rule place name) (sorted.Line broken where_ named) outcome is also =
    inr (inr (ap (λ (x : SortFault). fault.Sort x) (same_sort (sorted.Line rule place name) (sorted.Line broken where_ named) (sym is ∙ also))))

abbrev derivation : Graph → List Name → List Place → List Form → Derivation
derivation graph names places forms = record { graph = graph; names = names; places = places; forms = forms }

module _ (items : List Item) (given : List Name) (v : Vocabulary) where
  one_of_items : (d e : Derivation) (w x : Vocabulary) → AreDerivation items given v d w → AreDerivation items given v e x → (d ≡ e) × (w ≡ x)
  one_of_items d e w x are also =
      let graphs : d.graph ≡ e.graph = one_graph items given d.graph e.graph are.graph also.graph in
      let means : meaning are.lines w ≡ meaning also.lines x = sym are.denote ∙ also.denote in
      let lines : are.lines ≡ also.lines = ap (lines_or are.lines) means in
      let names : d.names ≡ e.names = are.names ∙ ap names_of lines ∙ sym also.names in
      let places : d.places ≡ e.places = are.places ∙ ap places_of lines ∙ sym also.places in
      let forms : d.forms ≡ e.forms = are.forms ∙ ap denied_forms lines ∙ sym also.forms in (
        ap (λ (g : Graph). derivation g d.names d.places d.forms) graphs
            ∙ ap (λ (ns : List Name). derivation e.graph ns d.places d.forms) names
            ∙ ap (λ (ps : List Place). derivation e.graph e.names ps d.forms) places
            ∙ ap (λ (fs : List Form). derivation e.graph e.names e.places fs) forms,
        ap (vocabulary_or w) means,
      )

  items_wants : (d : Derivation) (w : Vocabulary) (f : DerivationFault) → AreDerivation items given v d w → IsItemsFault items given v f → IsWant f
  items_wants d w (fault.Lex first) are is = absurd is
  items_wants d w (fault.Grammar first) are is = absurd is
  items_wants d w (fault.Graph first) are is = graph_or_fault items given d.graph first are.graph is
  items_wants d w (fault.Sort first) are (graph, is, fails) = not_meant are.lines w first (denoted items v kind.Derivation) are.denote fails
  items_wants d w fault.Memory are is = tt

  graphs_same : (first other : GraphFault) → (first ≡ graph.Memory) ⊎ ((other ≡ graph.Memory) ⊎ (first ≡ other)) → OneOrWant (fault.Graph first) (fault.Graph other)
  graphs_same first other (inl wants) = inl wants
  graphs_same first other (inr (inl wants)) = inr (inl wants)
  graphs_same first other (inr (inr same)) = inr (inr (ap (λ (x : GraphFault). fault.Graph x) same))

  one_items_fault : (f g : DerivationFault) → IsItemsFault items given v f → IsItemsFault items given v g → OneOrWant f g
  one_items_fault fault.Memory g is also = inl tt
  one_items_fault (fault.Lex first) g is also = absurd is
  one_items_fault (fault.Grammar first) g is also = absurd is
  one_items_fault f fault.Memory is also = inr (inl tt)
  one_items_fault f (fault.Lex first) is also = absurd also
  one_items_fault f (fault.Grammar first) is also = absurd also
  one_items_fault (fault.Graph first) (fault.Graph other) is also = graphs_same first other (one_fault items given first other is also)
  one_items_fault (fault.Graph first) (fault.Sort other) is (g, shape, also) = inl (graph_or_fault items given g first shape is)
  one_items_fault (fault.Sort first) (fault.Graph other) (g, shape, is) also = inr (inl (graph_or_fault items given g other shape also))
  one_items_fault (fault.Sort first) (fault.Sort other) (g, shape, is) (h, form, also) = sorts_same first other (denoted items v kind.Derivation) is also

-- ---- the text

module _ (text : List ℕ) (given : List Name) (v : Vocabulary) where
  pub one_derivation : (d e : Derivation) (w x : Vocabulary) → IsDerivation text given v d w → IsDerivation text given v e x → (d ≡ e) × (w ≡ x)
  one_derivation d e w x (items, spells, are) (others, again, also) =
      one_of_items items given v d e w x are (subst (λ (is : List Item). AreDerivation is given v e x) (one_spelled text others items again spells) also)

  pub derivation_wants : (d : Derivation) (w : Vocabulary) (f : DerivationFault) → IsDerivation text given v d w → IsDerivationFault text given v f → IsWant f
  derivation_wants d w f (items, spells, are) (inl faulty) = spelled_wants text items f spells faulty
  derivation_wants d w f (items, spells, are) (inr (others, again, is)) = items_wants items given v d w f are (subst (λ (xs : List Item). IsItemsFault xs given v f) (one_spelled text others items again spells) is)

  pub one_first_fault : (f g : DerivationFault) → IsDerivationFault text given v f → IsDerivationFault text given v g → OneOrWant f g
  one_first_fault f g (inl is) (inl also) = one_text_fault text f g is also
  one_first_fault f g (inl is) (inr (items, spells, also)) = inl (spelled_wants text items f spells is)
  one_first_fault f g (inr (items, spells, is)) (inl also) = inr (inl (spelled_wants text items g spells also))
  one_first_fault f g (inr (items, spells, is)) (inr (others, again, also)) =
      one_items_fault items given v f g is (subst (λ (xs : List Item). IsItemsFault xs given v g) (one_spelled text others items again spells) also)
