-- Faults as EDN values (this project's own): `[:cut LINKS]`, `[:slow MS LINKS]`,
-- `[:loss LEVEL LINKS]`, `[:fix MS LINKS]`, `[:pause NODES]`, `[:kill NODES]` and
-- `[:bump {"n1" 500, ..}]`, where LINKS are `[[src dst] ..]`, NODES `["n1" ..]`, and each name is a
-- node's; or a cut that is named by a grudge over all nodes: `[:halves]`, `[:split-one "n1"]`,
-- `[:bridge]`, `[:ring]` and `[:ring SEED]`. A new kind of fault is a new case here.
use Rattle.std.specs.Prelude.{◌≡◌, ℕ, ◌⊎◌, Bool, ℤ, List, [], ◌∷◌, length, codes, if◌then◌else◌}
use Rattle.std.specs.Prelude.{is_some, option_and_then, option_map, Option, Some, None}
use Rattle.std.specs.Prelude.{Result, Ok, Err, MatchResult, IsOk}
use Rattle.std.specs.List.{list_all}
use Rattle.std.specs.Str.{bytes_eq}
use Rattle.jh_edn.specs.Edn.{Edn, int, keyword, mapping, elements_of, pairs_in}
use Rattle.jh_env.specs.Amounts.{link_fault_of}
use Rattle.jh_env.specs.declared.amounts.GivenLinkFault.{GivenLinkFault}
use Rattle.jh_env.specs.Faults.{FaultValue, kept_links, Cut}
use Rattle.jh_env.specs.Naming.{bump_of, bump_spelled, ends_of, judged_bumps, judged_links}
use Rattle.jh_env.specs.Naming.{judged_nodes, link_names, named_node, node_name}
use Rattle.jh_env.specs.TextErrors.{place_of}
use Rattle.jh_env.specs.declared.faults.FaultError.TheVariants as FaultError
use Rattle.jh_tables.specs.declared.faults.LinkFault.{LinkFault}
use Rattle.jh_tables.specs.declared.faults.NodeFault.{NodeFault}
use Rattle.jh_step_texts.specs.declared.steps.StepTextError.{StepTextError}
use Rattle.jh_step_texts.specs.declared.steps.StepTextError.TheVariants.{UnknownNode, SelfLink}
use Rattle.jh_step_texts.specs.declared.steps.StepTextError.TheVariants.{BadAmount, OutOfMemory}
use Rattle.jh_step_texts.specs.Kinds.{fault_kind_named}
use Rattle.jh_step_texts.specs.declared.kinds.FaultKind.{FaultKind}
use Rattle.jh_step_texts.specs.NamedFaults.{links_that, named_links, touches, IsOverAll}
use Rattle.jh_step_texts.specs.declared.spelling.NamedGrudge.{NamedGrudge}

-- A fault as it is spelled, before anything is judged: what it does to links, with the values of
-- these; what it does to nodes, with the values of these; the pairs of its bumps; for a split, the
-- name of the node that is left alone; or the grudge that it is named by.
pub data FaultSpelling : Type 0 where
  Links : GivenLinkFault → List Edn → FaultSpelling
  Nodes : NodeFault → List Edn → FaultSpelling
  Bumps : List (Edn × Edn) → FaultSpelling
  SplitOne : List ℕ → FaultSpelling
  Grudge : NamedGrudge → FaultSpelling

-- these, if the test holds of each of them
abbrev pub all_of : {A : Type 0} → (A → Bool) → List A → Option (List A)
all_of is xs = if list_all is xs then Some xs else None

abbrev pub links_in : Edn → Option (List Edn)
links_in v = option_and_then (all_of (λ l. is_some (link_names l))) (elements_of v)

abbrev pub nodes_in : Edn → Option (List Edn)
nodes_in v = option_and_then (all_of (λ n. is_some (node_name n))) (elements_of v)

abbrev pub bumps_in : Edn → Option (List (Edn × Edn))
bumps_in (mapping ms) = all_of (λ b. is_some (bump_spelled b)) (pairs_in ms)
bumps_in _ = None

-- what a keyword alone spells
abbrev pub spelled_by_keyword : List ℕ → Option FaultSpelling
spelled_by_keyword name =
    if bytes_eq name (codes "halves") then Some (Grudge NamedGrudge.Halves)
    else if bytes_eq name (codes "bridge") then Some (Grudge NamedGrudge.Bridge)
    else if bytes_eq name (codes "ring") then Some (Grudge NamedGrudge.Ring)
    else None

-- a ring in the order that a seed gives
abbrev pub spelled_ring : Edn → Option FaultSpelling
spelled_ring (int seed) = Some (Grudge (NamedGrudge.ShuffledRing seed))
spelled_ring _ = None

-- what a keyword and a value spell, where the keyword is that of a grudge and of no kind of fault
abbrev pub spelled_grudge : List ℕ → Edn → Option FaultSpelling
spelled_grudge name v =
    if bytes_eq name (codes "split-one") then option_map SplitOne (node_name v)
    else if bytes_eq name (codes "ring") then spelled_ring v
    else None

-- what a keyword and a value spell, where a fault of the keyword's kind has no amount; or, where the
-- keyword is no kind's, a cut of a grudge
abbrev pub spelled_unmeasured : Option FaultKind → List ℕ → Edn → Option FaultSpelling
spelled_unmeasured (Some FaultKind.Cut) name v = option_map (Links GivenLinkFault.Cut) (links_in v)
spelled_unmeasured (Some FaultKind.Pause) name v = option_map (Nodes NodeFault.Pause) (nodes_in v)
spelled_unmeasured (Some FaultKind.Kill) name v = option_map (Nodes NodeFault.Kill) (nodes_in v)
spelled_unmeasured (Some FaultKind.Bump) name v = option_map Bumps (bumps_in v)
spelled_unmeasured (Some kind) name v = None
spelled_unmeasured None name v = spelled_grudge name v

-- what a keyword and a value spell, without an amount
abbrev pub unmeasured_fault : List ℕ → Edn → Option FaultSpelling
unmeasured_fault name v = spelled_unmeasured (fault_kind_named name) name v

-- what a fault of this kind does to its links with an amount, if it has one
abbrev pub measured : FaultKind → ℤ → Option GivenLinkFault
measured FaultKind.Slow z = Some (GivenLinkFault.Slow z)
measured FaultKind.Loss z = Some (GivenLinkFault.Loss z)
measured FaultKind.Fix z = Some (GivenLinkFault.Fix z)
measured kind z = None

-- what a keyword, an amount and a value spell
abbrev pub measured_fault : List ℕ → ℤ → Edn → Option FaultSpelling
measured_fault name z v =
    option_and_then (λ given. option_map (Links given) (links_in v))
    (option_and_then (λ kind. measured kind z) (fault_kind_named name))

abbrev pub spelling_in : List Edn → Option FaultSpelling
spelling_in (keyword name ∷ []) = spelled_by_keyword name
spelling_in (keyword name ∷ v ∷ []) = unmeasured_fault name v
spelling_in (keyword name ∷ int z ∷ v ∷ []) = measured_fault name z v
spelling_in _ = None

-- how a value spells a fault, if it does
abbrev pub fault_spelling : Edn → Option FaultSpelling
fault_spelling v = option_and_then spelling_in (elements_of v)

-- a ring that is spelled is laid over all n nodes
abbrev pub IsRingOverAll : ℕ → Option FaultSpelling → Type 0
IsRingOverAll n (Some (Grudge named)) = IsOverAll n named
IsRingOverAll n _ = Unit {0}

-- what is parsed with a part that has to be there, or the refusal where it is not
abbrev pub result_or_refusal : {A B : Type 0} → Option A → StepTextError
    → (A → Result B StepTextError) → Result B StepTextError
result_or_refusal None refusal parsed = Err refusal
result_or_refusal (Some part) refusal parsed = parsed part

-- the refusal of a step whose fault is refused
abbrev pub refusal_of : FaultError.the_data → StepTextError
refusal_of FaultError.UnknownNode = UnknownNode
refusal_of FaultError.SelfLink = SelfLink
refusal_of FaultError.BadAmount = BadAmount
refusal_of FaultError.OutOfMemory = OutOfMemory

-- a fault as an environment judges it, refused as a step is
abbrev pub fault_or_refusal : Result FaultValue FaultError.the_data
    → Result FaultValue StepTextError
fault_or_refusal (Ok fault) = Ok fault
fault_or_refusal (Err refusal) = Err (refusal_of refusal)

abbrev pub parsed_links : List (List ℕ) → Option LinkFault → List Edn
    → Result FaultValue StepTextError
parsed_links names kind links = fault_or_refusal (judged_links (ends_of names) kind links)

abbrev pub parsed_nodes : List (List ℕ) → NodeFault → List Edn → Result FaultValue StepTextError
parsed_nodes names kind nodes = fault_or_refusal (judged_nodes (named_node names) kind nodes)

abbrev pub parsed_bumps : List (List ℕ) → List (Edn × Edn) → Result FaultValue StepTextError
parsed_bumps names bumps = fault_or_refusal (judged_bumps (bump_of names) bumps)

-- a cut of these links
abbrev pub cut_of : List (ℕ × ℕ) → FaultValue
cut_of links = Cut (kept_links links)

abbrev pub parsed_split : List (List ℕ) → List ℕ → Result FaultValue StepTextError
parsed_split names loner =
    result_or_refusal (place_of names loner) UnknownNode
    (λ place. Ok (cut_of (links_that (touches place) (length names))))

abbrev pub parsed_named : ℕ → NamedGrudge → Result FaultValue StepTextError
parsed_named count named =
    result_or_refusal (named_links named count) BadAmount (λ links. Ok (cut_of links))

-- The fault that is parsed, or the first refusal that applies, over the whole fault: an unknown
-- node, a link of a node with itself, an amount or a seed out of range or a node that is bumped
-- twice.
abbrev pub parsed_fault : List (List ℕ) → FaultSpelling → Result FaultValue StepTextError
parsed_fault names (Links given links) = parsed_links names (link_fault_of given) links
parsed_fault names (Nodes kind nodes) = parsed_nodes names kind nodes
parsed_fault names (Bumps bumps) = parsed_bumps names bumps
parsed_fault names (SplitOne loner) = parsed_split names loner
parsed_fault names (Grudge named) = parsed_named (length names) named

-- What was answered is what is parsed; or memory was refused where something would be parsed.
abbrev pub IsParsedAs : {A : Type 0} → Result A StepTextError → Result A StepTextError → Type 0
IsParsedAs answer parsed =
    MatchResult answer (λ x. parsed ≡ Ok x)
    (λ e. (parsed ≡ Err e) ⊎ ((e ≡ OutOfMemory) × IsOk parsed))
