-- A plan can be written just where its texts, its numbers and its schedule can.
use Rattle.std.proofs.Common.{◌≤◌}
use Rattle.std.proofs.lemmas.List.Elements.{All-weaker}
use Rattle.jh_simnode.specs.Plans.{PlanValue}
use Rattle.jh_settings.specs.Limits.{max_due_at}
use Rattle.jh_settings_texts.specs.SettingsWritten.{CanBeWritten, IsWritableEntry, LeadsToOthers}
use Rattle.jh_settings_texts.specs.TableInside.{HasWritableTexts, HasWritableLoad}

pub can_from_parts : (p : PlanValue) → HasWritableTexts p → HasWritableLoad p → CanBeWritten p
can_from_parts p texts load = record {
  links = texts.start.links;
  nodes = texts.start.nodes;
  generator = texts.generator;
  initial = load.numbers.initial;
  tick_every = load.numbers.tick_every;
  seed = load.numbers.seed;
  due = All-weaker IsWritableEntry (λ entry. entry.at ≤ max_due_at) (λ entry h. h.0) p.schedule load.entries;
  others = All-weaker IsWritableEntry (λ entry. LeadsToOthers entry.step) (λ entry h. h.1) p.schedule load.entries;
}

pub texts_from_can : (p : PlanValue) → CanBeWritten p → HasWritableTexts p
texts_from_can p can = record { start = record { links = can.links; nodes = can.nodes }; generator = can.generator }

pub load_from_can : (p : PlanValue) → CanBeWritten p → HasWritableLoad p
load_from_can p can = record {
  numbers = record { initial = can.initial; tick_every = can.tick_every; seed = can.seed };
  entries = λ i d below. (can.due i d below, can.others i d below);
}
