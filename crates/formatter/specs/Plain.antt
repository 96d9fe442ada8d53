-- 'The plain printing has no runs: a list's body stands in both branches with the same mark numbers'. It knows nothing of the printing with runs; where both
-- say the same, names and lines are those of `Print` of `printer`, so that a `diff` of the two shows what is different.
use Rattle.std.specs.Prelude.{Bool, cond, not, ◌||◌, List, [], ◌∷◌, ℕ, suc, ◌*◌, leb, eqb}
use Rattle.std.proofs.Math.Option.{Option, none as nothing, some}
use Prim.Native.String.{String}
use Rattle.text.specs.Basic.{ascii, is_nil}
use Rattle.items.specs.Item.{Test, lines, text, newline, indent, outdent, block, block_end, Print, ◌⨟◌, none, say, stopped, lit, when, keeping, starting_at, signal}
use Rattle.formatter.specs.PlainCombine.{newline_if, either, only_if, grouped, comma, separator, ending, test_of, bracketed}
use Rattle.comments.specs.Comments.{above_item, item_inline, end_of_items}
use Rattle.tree.specs.Tree.{Forest, nil, tree, Part, texts, parts}
use Rattle.tree.specs.declared.class.Class.{Class}
use Rattle.tree.specs.Class.{is, nth, first, plus_of}
use Rattle.plan.specs.Comments.{comments}
use Rattle.children.specs.Reading.{Child, Ending, Reading, foreign, read, between, enclosed, comp_members, comp_specs, more, any_many_lines, is_empty, Around, foreign_at, trivia, trivia_before, trivia_after}
use Rattle.printer.specs.Layout.{What, txt, bare, part, opt, each, plus, Piece, asked, layout}

-- the body of list k in both branches: 'which prints the body anew in each branch', with the numbers behind k in each
unfoldable pub twice : ℕ → Test → Print → Print → Print → Print
twice k t body in_many in_one =
    either t
    (say block ⨟ say newline ⨟ starting_at (suc k) body ⨟ say block_end ⨟ in_many)
    (in_one ⨟ starting_at (suc k) body)

-- with_indent_eoi
unfoldable pub indented : ℕ → Test → Print → Ending → Print
indented k t body e = twice k t (grouped (body ⨟ ending e)) none (lit " ")

-- What nodes print, where pr n is what the child with number n prints.
module _ (pr : ℕ → Print) where
  -- ROWS

  -- a part, or else p: `Option<P>::print`, 'An absent part prints `/*missing Expr*/` and so on', and `if let Some(..)`
  unfoldable pub part_or : Print → Option Part → Print
  part_or p nothing = p
  part_or p (some x) = pr x.number

  -- a `for` over all parts of a class
  unfoldable pub each_of : Class → String → Bool → List Part → Print
  each_of c front ended [] = none
  each_of c front ended (x ∷ xs) =
      cond (is c x)
      (when (not (is_nil (ascii front))) (lit front) ⨟ pr x.number ⨟ when ended (lit "," ⨟ say newline) ⨟ each_of c front ended xs)
      (each_of c front ended xs)

  -- one piece of a row, for a node with these parts
  unfoldable pub what : List Part → What → Print
  what ps (txt a) = lit a
  what ps (bare x) = say (signal x)
  what ps (part w missing) = part_or (lit missing) (nth w.class w.place ps)
  what ps (opt c) = part_or none (first c ps)
  what ps (each c front ended) = each_of c front ended ps
  what ps plus = part_or none (plus_of ps)

  -- the pieces of a row that are asked for
  unfoldable pub row : List Part → List Piece → Print
  row ps [] = none
  row ps (p ∷ rest) = when (asked ps p) (what ps p.what) ⨟ row ps rest

  -- LISTS

  -- a child with its comments, and what follows it on its line
  unfoldable pub with_comments : Child → Print → Print
  with_comments c p = newline_if c.blank_line ⨟ comments c.before above_item ⨟ pr c.value.number ⨟ p ⨟ comments c.inline item_inline

  -- a list's children, with what follows each on its line and behind that; both know whether more children follow
  unfoldable pub children : (Bool → Print) → (Bool → Print) → List Child → Print
  children on_line behind_it [] = none
  children on_line behind_it (c ∷ cs) = with_comments c (on_line (more cs)) ⨟ behind_it (more cs) ⨟ children on_line behind_it cs

  -- `ExprArray::print`, `ObjBodyMemberList`: gen_elements, gen_members
  unfoldable pub list : String → String → String → Reading → Print
  list empty a z (foreign n) = stopped n
  list empty a z (read cs e) =
      cond (is_empty cs e) (lit empty)
      (bracketed a z λ k.
      let t = test_of (any_many_lines cs || e.blank_line) k in
      indented k t (grouped (children (λ m. comma m t) (λ m. separator t) cs)) e)

  -- `ArgsDesc::print`, gen_args
  unfoldable pub arguments : Reading → Print
  arguments (foreign n) = stopped n
  arguments (read cs e) =
      bracketed "(" ")" λ k.
      let t = lines (2 * k) in
      twice k t (grouped (children (λ m. comma m t) (λ m. when m (separator t)) cs)) (say newline) none ⨟ ending e

  -- `ObjBodyComp`, gen_obj_comp, from its members and the reading of its CompSpecs
  unfoldable pub comp_body : List Child → Ending → Reading → Print
  comp_body ms me (foreign n) = stopped n
  comp_body ms me (read cs e) =
      bracketed "{" "}" λ k.
      let t = test_of (any_many_lines ms || (any_many_lines cs || (me.blank_line || e.blank_line))) k in
      let members = children (λ m. only_if t (lit ",")) (λ m. separator t) ms in
      let specs = children (λ m. none) (λ m. separator t) cs in
      indented k t (grouped (members ⨟ newline_if me.blank_line ⨟ specs)) e

  -- `ObjBodyComp` from the reading of its members
  unfoldable pub comp_of : List Part → Reading → Print
  comp_of ps (foreign n) = stopped n
  comp_of ps (read ms me) = comp_body ms me (comp_specs me ps)

  -- `ObjBodyComp` with number n from its first CompSpec: 'an object comprehension without a CompSpec'
  unfoldable pub comprehension : ℕ → List Part → Option Part → Print
  comprehension n ps nothing = stopped n
  comprehension n ps (some spec) = comp_of ps (comp_members spec ps)

  -- LOCALS

  -- `StmtLocal` with no bind, or with several
  unfoldable pub many_binds : List Child → Ending → Print
  many_binds cs e = lit "local" ⨟ say indent ⨟ say newline ⨟ children (λ m. lit ",") (λ m. say newline) cs ⨟ ending e ⨟ say outdent

  -- `StmtLocal`: with one bind only the comments before it are printed
  unfoldable pub local_of : Reading → Print
  local_of (foreign n) = stopped n
  local_of (read [] e) = many_binds [] e
  local_of (read (c ∷ []) e) = comments c.before above_item ⨟ lit "local " ⨟ pr c.value.number
  local_of (read (c ∷ d ∷ cs) e) = many_binds (c ∷ d ∷ cs) e

  -- EXPRESSIONS

  -- a statement: 'Comments around a statement .. of an Expr are read and not printed'; in the keeping mode 'an Expr prints each statement's before-trivia above it, its inline trivia
  -- after it at the end-of-items place'
  unfoldable pub statement : Child → Print
  statement c = keeping (comments c.before above_item) ⨟ pr c.value.number ⨟ keeping (comments c.inline end_of_items)

  -- statements in turn; 'blank lines around statements, are still dropped'
  unfoldable pub statements : List Child → Print
  statements [] = none
  statements (c ∷ cs) = statement c ⨟ statements cs

  -- the statements of a reading, 'and the trivia left before the base expression at the same place before that base (or its missing text)'
  unfoldable pub statements_of : Reading → Print
  statements_of (foreign n) = stopped n
  statements_of (read cs e) = statements cs ⨟ keeping (comments e.trivia end_of_items)

  -- suffixes in turn: 'Comments around a .. suffix of an Expr are read and not printed', in the keeping mode too: 'Suffix comments .. are still dropped'
  unfoldable pub values : List Child → Print
  values [] = none
  values (c ∷ cs) = pr c.value.number ⨟ values cs

  -- the suffixes of a reading
  unfoldable pub values_of : Reading → Print
  values_of (foreign n) = stopped n
  values_of (read cs e) = values cs

  -- `Expr::print`: statements, the expression at its base, suffixes
  unfoldable pub expression : List Part → Option Part → Print
  expression ps base =
      statements_of (between Class.Stmt nothing base nothing ps)
      ⨟ part_or (lit "/*missing ExprBase*/") base
      ⨟ values_of (between Class.Suffix base nothing nothing ps)

  -- `Printable::print` of an element: its kind, its number, its own text, the joined texts below it, and its parts; 'Visibility prints all its token texts joined'
  unfoldable pub element : ℕ → ℕ → List ℕ → List ℕ → List Part → Print
  element k n s below ps =
      cond (leb 64 k) (say (text s))
      (cond (eqb k 56) (say (text below))
      (cond (eqb k 2) (expression ps (first Class.ExprBase ps))
      (cond (eqb k 10) (list "[ ]" "[" "]" (enclosed Class.Expr Class.LBrack Class.RBrack ps))
      (cond (eqb k 22) (local_of (enclosed Class.Bind Class.Local Class.Semi ps) ⨟ lit ";" ⨟ say newline)
      (cond (eqb k 26) (comprehension n ps (first Class.CompSpec ps))
      (cond (eqb k 27) (list "{ }" "{" "}" (enclosed Class.Member Class.LBrace Class.RBrace ps))
      (cond (eqb k 47) (arguments (enclosed Class.Arg Class.LParen Class.RParen ps))
      (row ps (layout k)))))))))

-- SOURCE FILE

-- what the element with number n prints, among the elements at the top of a forest
unfoldable pub prints : Forest → ℕ → Print
prints nil n = none
prints (tree e kids rest) n =
    let here = element (prints kids) e.kind e.number e.text (texts kids) (parts kids) in
    let later = prints rest n in
    cond (eqb n e.number) here later

-- `SourceFile::print` from what trivia_before, trivia_after and the expression give
unfoldable pub source_of : Around → Around → Print → Print
source_of (foreign_at n) after p = stopped n
source_of (trivia b) (foreign_at n) p = stopped n
source_of (trivia b) (trivia a) p = comments b above_item ⨟ p ⨟ say newline ⨟ comments a end_of_items

-- `SourceFile::print` from its parts and its expression
unfoldable pub source : (ℕ → Print) → List Part → Option Part → Print
source pr ps x = source_of (trivia_before x ps) (trivia_after x ps) (part_or pr (lit "/*missing Expr*/") x)

-- the plain printing of a source file: 'It has a definition of its own over the tree'
unfoldable pub plain_file : Forest → Print
plain_file nil = none
plain_file (tree e kids rest) = source (prints kids) (parts kids) (first Class.Expr (parts kids))
