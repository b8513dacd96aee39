-- What the parts of the code say to each other (this project's own).
use Rattle.std.specs.Prelude.{All, length}
use Rattle.jh_env.specs.Names.{AreNodeNames}
use Rattle.jh_laws.specs.StepLines.{IsStepOver}
use Rattle.jh_test_parts.specs.Test.{TestValue, IsFitTest}

-- what holds of a test whose entries can be written, as of each that a program holds
pub record IsTestWithTexts (test : TestValue) : Type 0 where
  pub fit : IsFitTest test
  pub named : AreNodeNames test.start.names
  pub steps : All (λ entry. IsStepOver (length test.start.names) entry.step) test.schedule
