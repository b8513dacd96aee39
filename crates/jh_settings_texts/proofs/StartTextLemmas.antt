-- The text of an environment on which no fault is laid is a text of its start.
use Rattle.std.proofs.Common.{◌≡◌, ℕ, Bool, true, false, List, [], Option, Some, None, refl, sym, ap, ◌∙◌}
use Rattle.std.specs.Prelude.{◌||◌, option_map}
use Rattle.std.proofs.Math.Nat.{add-zero}
use Rattle.jh_env.specs.Cells.{Table, Running, Paused, Killed, Link, NodeCell, link_at, node_at}
use Rattle.jh_env.specs.Overlay.{EnvValue, StandsFor, IsOverlay, link_over, node_over, cells_of}
use Rattle.jh_env.specs.Text.{Entry}
use Rattle.jh_env.specs.TextCells.{AreCellsOf, SpellsEnv}
use Rattle.jh_env.specs.TextLaws.{CanStart}
use Rattle.jh_env.specs.TextWritten.{edn_of_env}
use Rattle.jh_env.proofs.TextLawLemmas.{text_reads_back}

or_no : (t : Bool) → (t || false) ≡ t
or_no true = refl
or_no false = refl

link_same : (a b : ℕ) (link : Link) → link_over [] a b link ≡ link
link_same a b link = λ i. record { cut = or_no link.cut i; delay = add-zero link.delay i; loss = link.loss }

node_same : (a : ℕ) (node : NodeCell) → node_over [] a node ≡ node
node_same a node =
    elim node.process as (λ p. node_over [] a (record { process = p; clock = node.clock }) ≡ record { process = p; clock = node.clock }) [
      | Running ↦ refl
      | Paused ↦ refl
      | Killed ↦ refl
    ]

map_same : {A : Type 0} (f : A → A) (o : Option A) → ((x : A) → f x ≡ x) → option_map f o ≡ o
map_same f None same = refl
map_same f (Some x) same = ap Some (same x)

start_cells : (names : List (List ℕ)) (entries : List Entry) (start cells : Table) → IsOverlay start [] cells → AreCellsOf names entries cells → AreCellsOf names entries start
start_cells names entries start cells over are = record {
  links = λ a b. sym (over.links a b ∙ map_same (link_over [] a b) (link_at start a b) (link_same a b)) ∙ are.links a b;
  nodes = λ a. sym (over.nodes a ∙ map_same (node_over [] a) (node_at start a) (node_same a)) ∙ are.nodes a;
}

pub start_text : (env : EnvValue) → CanStart env → StandsFor env [] → SpellsEnv (edn_of_env env) env.names env.start
start_text env starts calm =
    let (shape, has, names, few, named, sound, cells) = text_reads_back env starts in
    (shape, has, names, few, named, sound, start_cells env.names shape.entries env.start (cells_of env) calm.cells cells)
