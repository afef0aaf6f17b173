mod KeyLemmas
