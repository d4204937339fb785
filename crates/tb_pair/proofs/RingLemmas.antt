-- The ends of a ring stay its ends.
use Rattle.std.proofs.Common.{refl, sym, ◌∙◌}
use Rattle.rtrb.specs.declared.producer.Producer.{Producer}
use Rattle.rtrb.specs.declared.consumer.Consumer.{Consumer}
use Rattle.rtrb.specs.Ring.{IsPair, SameProducer, SameConsumer}

module _ {T A P : Type 0} where
  pub producer_same : (p : Producer T A P) → SameProducer p p
  producer_same p = ((refl, refl, refl, refl), refl)

  pub producer_on : (p q r : Producer T A P) → SameProducer p q → SameProducer q r → SameProducer p r
  producer_on p q r a b = ((b.0.0 ∙ a.0.0, b.0.1 ∙ a.0.1, b.0.2 ∙ a.0.2, b.0.3 ∙ a.0.3), b.1 ∙ a.1)

  pub consumer_same : (c : Consumer T A P) → SameConsumer c c
  consumer_same c = ((refl, refl, refl, refl), refl)

  pub consumer_on : (c d e : Consumer T A P) → SameConsumer c d → SameConsumer d e → SameConsumer c e
  consumer_on c d e a b = ((b.0.0 ∙ a.0.0, b.0.1 ∙ a.0.1, b.0.2 ∙ a.0.2, b.0.3 ∙ a.0.3), b.1 ∙ a.1)

  pub pair_stays : (p q : Producer T A P) (c d : Consumer T A P) → IsPair p c → SameProducer p q → SameConsumer c d → IsPair q d
  pair_stays p q c d pair a b =
      (b.0.0 ∙ (pair.0 ∙ sym a.0.0), b.0.1 ∙ (pair.1 ∙ sym a.0.1), b.0.2 ∙ (pair.2 ∙ sym a.0.2), b.0.3 ∙ (pair.3 ∙ sym a.0.3))
