pub mod GeneratorTextLemmas
