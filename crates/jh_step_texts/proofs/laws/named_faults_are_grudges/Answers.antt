use Rattle.jh_step_texts.proofs.GrudgeLemmas.{halves_exact, split_exact, bridge_exact, ring_exact, order_long, order_below}
use Rattle.jh_step_texts.proofs.laws.named_faults_are_grudges.Goals as goal

pub returns : goal.returns
returns c = record {
  halves = halves_exact;
  split = split_exact;
  bridge = bridge_exact;
  ring = λ n order shuffled. ring_exact order n (order_long n order shuffled) (order_below n order shuffled);
}
