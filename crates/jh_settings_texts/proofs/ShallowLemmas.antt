-- What is written of a step can be printed with one level less than a text has, so that it can stand in an entry.
use Rattle.std.proofs.Common.{ℕ, ◌+◌, ◌<◌, List, [], ◌∷◌, map, arith}
use Rattle.std.specs.Prelude.{ℤ}
use Rattle.jh_edn.specs.Edn.{items_of, members_of}
use Rattle.jh_edn.specs.Printable.{IsPrintable, ArePrintable, ArePrintablePairs}
use Rattle.jh_edn.specs.Spelling.{depth_limit}
use Rattle.jh_env.specs.Faults.{FaultValue, Cut, Slow, Loss, Fix, Pause, Kill, Bump}
use Rattle.jh_step_texts.specs.FaultWritten.{is_link_before, is_node_before, is_bump_before, edn_of_name, edn_of_link, edn_of_links, edn_of_bump, edn_of_fault}
use Rattle.jh_edn.specs.Order.{in_order}
use Rattle.jh_step_texts.specs.StepWritten.{edn_of_step}
use Rattle.jh_nemesis.specs.declared.steps.Step.{Step}
use Rattle.jh_nemesis.specs.declared.steps.Step.TheVariants.{Begin, Withdraw, WithdrawAll, Undo, Redo}

some : (n : ℕ) → 0 < n + 1
some n = omega arith

module _ (names : List (List ℕ)) where
  links_within : (links : List (ℕ × ℕ)) → ArePrintable 60 (items_of (map (edn_of_link names) links))
  links_within [] = tt
  links_within (l ∷ ls) = ((some 59, (tt, (tt, tt))), links_within ls)

  nodes_within : (nodes : List ℕ) → ArePrintable 60 (items_of (map (edn_of_name names) nodes))
  nodes_within [] = tt
  nodes_within (n ∷ ns) = (tt, nodes_within ns)

  bumps_within : (bumps : List (ℕ × ℤ)) → ArePrintablePairs 61 (members_of (map (edn_of_bump names) bumps)) → ArePrintablePairs 60 (members_of (map (edn_of_bump names) bumps))
  bumps_within [] h = tt
  bumps_within (b ∷ bs) h = (tt, h.1, bumps_within bs h.2)

  links_there : (links : List (ℕ × ℕ)) → IsPrintable 61 (edn_of_links names links)
  links_there links = (some 60, links_within links)

  fault_within : (fault : FaultValue) → IsPrintable 63 (edn_of_fault names fault) → IsPrintable 62 (edn_of_fault names fault)
  fault_within (Cut links) h = (some 61, (h.1.0, (links_there (in_order is_link_before links), tt)))
  fault_within (Slow ms links) h = (some 61, (h.1.0, (h.1.1.0, (links_there (in_order is_link_before links), tt))))
  fault_within (Loss level links) h = (some 61, (h.1.0, (h.1.1.0, (links_there (in_order is_link_before links), tt))))
  fault_within (Fix ms links) h = (some 61, (h.1.0, (h.1.1.0, (links_there (in_order is_link_before links), tt))))
  fault_within (Pause nodes) h = (some 61, (h.1.0, ((some 60, nodes_within (in_order is_node_before nodes)), tt)))
  fault_within (Kill nodes) h = (some 61, (h.1.0, ((some 60, nodes_within (in_order is_node_before nodes)), tt)))
  fault_within (Bump bumps) h = (some 61, (h.1.0, ((some 60, bumps_within (in_order is_bump_before bumps) h.1.1.0.1, h.1.1.0.2), tt)))

  pub step_within : (step : Step) → IsPrintable depth_limit (edn_of_step names step) → IsPrintable 63 (edn_of_step names step)
  step_within (Begin id fault) h = (some 62, (h.1.0, (h.1.1.0, (fault_within fault h.1.1.1.0, tt))))
  step_within (Withdraw id) h = (some 62, h.1)
  step_within WithdrawAll h = (some 62, h.1)
  step_within Undo h = (some 62, h.1)
  step_within Redo h = (some 62, h.1)
